-- The rows of the lawful trace that need no tree, record by record.
use Rattle.std.specs.Prelude.{ℕ, ◌≡◌, ◌⊎◌, ◌||◌, ◌&&◌, true, false, List, length, nat_le, None, Some}
use Rattle.locus_ids.specs.declared.config.Config.{Config}
use Rattle.locus_ids.specs.declared.ids.EpochId.{EpochId}
use Rattle.locus_ids.specs.declared.sites.Members.{Members}
use Rattle.trace_book.specs.declared.entry.Entry.{Entry}
use Rattle.trace_book.specs.declared.record.Record.{Record}
use Rattle.trace_book.specs.declared.record.Record.TheVariants as says
use Rattle.trace_book.specs.declared.record.StopCause.{StopCause}
use Rattle.trace_book.specs.declared.record.StopCause.TheVariants as cause
use Rattle.schedule_lines.specs.declared.line.ScheduleLine.{ScheduleLine}
use Rattle.schedule_lines.specs.Cluster.{config_of}
use Rattle.lawful_trace.specs.of_tree_model.Folds.{Trace, last_line}
use Rattle.lawful_trace.specs.of_tree_model.Epochs.{is_up, boot_of, epoch_of, has_joined, last_joined, is_above_joined, members_of}
use Rattle.lawful_trace.specs.of_tree_model.Packs.{boot_in}
use Rattle.lawful_trace.specs.Places.{line_at}
use Rattle.lawful_trace.specs.Disks.{armed_at, is_armed_as}
use Rattle.lawful_trace.specs.SiteRows.{MayBoot, IsBootAsked, StopRow, IsStopAsked, boots, MayLeave, IsLeaveAsked, IsJoinAsked}
use Rattle.lawful_trace.specs.CallRows.{CallLine}
use Rattle.lawful_trace.specs.LineRows.{IsRoundAsked, IsListAsked}
use Rattle.row_laws.specs.Events.{IsShort}

-- ---- numbers ----

-- the record's line isn't an earlier one than that of the records before, and is there
pub record IsPlaced (lines : List ScheduleLine) (before : Trace) (r : Entry) : Type 0 where
  pub ascending : nat_le (last_line before) r.line ≡ true
  pub placed : nat_le 1 r.line && nat_le r.line (length lines) ≡ true

-- ---- what the lines have asked ----

-- a stop by its line; or one within a disk call, of a site that runs or boots
abbrev pub StopAsked : List ScheduleLine → ℕ → Trace → ℕ → StopCause → Type 0
StopAsked lines n before site cause.Asked = IsStopAsked lines n site
StopAsked lines n before site cause.Fuse = is_up (config_of lines) before site || boots (line_at lines n) site ≡ true
StopAsked lines n before site cause.Fault = is_up (config_of lines) before site || boots (line_at lines n) site ≡ true

abbrev pub AskedRecord : List ScheduleLine → ℕ → Trace → Record → Type 0
AskedRecord lines n before (says.Up site boot) = IsBootAsked lines n site
AskedRecord lines n before (says.Stopped site why) = StopAsked lines n before site why
AskedRecord lines n before (says.Leave site epoch) = IsLeaveAsked lines n before site
AskedRecord lines n before (says.Join site epoch members) = IsJoinAsked lines n before epoch
AskedRecord lines n before (says.Accept site process call words) = CallLine lines n site process words
AskedRecord lines n before (says.Packet number from to kind) = IsListAsked lines n
AskedRecord lines n before says.Budget = IsRoundAsked lines n
AskedRecord lines n before _ = Unit {0}

-- the lines have asked for the record: a boot, a stop, a leave, a join, a call, listed packets or the end of a round
abbrev pub IsAskedFor : List ScheduleLine → Trace → Entry → Type 0
IsAskedFor lines before r = AskedRecord lines r.line before r.what

-- ---- sites ----

-- A site that runs joins an epoch that it never joined, above all that it joined in this boot; every member joins it with
-- the same list.
pub record JoinsAnew (c : Config) (before : Trace) (site : ℕ) (e : EpochId) (members : Members) : Type 0 where
  pub up : is_up c before site ≡ true
  pub outside : epoch_of before site ≡ None
  pub new : has_joined before site e ≡ false
  pub later : is_above_joined (last_joined before site) e ≡ true
  pub same : members_of before e ≡ None ⊎ members_of before e ≡ Some members

abbrev pub SiteRecordRow : Config → Trace → Record → Type 0
SiteRecordRow c before (says.Up site boot) = MayBoot c before site boot
SiteRecordRow c before (says.Stopped site why) = StopRow c before site why
SiteRecordRow c before (says.Leave site epoch) = MayLeave before site epoch
SiteRecordRow c before (says.Join site epoch members) = JoinsAnew c before site epoch members
SiteRecordRow c before _ = Unit {0}

-- a boot, a stop, a leave or a join comes as it may
abbrev pub IsSiteRow : Config → Trace → Entry → Type 0
IsSiteRow c before r = SiteRecordRow c before r.what

abbrev pub MemberRecord : Trace → Record → Type 0
MemberRecord before (says.Join site epoch members) = boot_in members site ≡ boot_of before site
MemberRecord before _ = Unit {0}

-- the list that a site joins has it with its boot
abbrev pub IsMemberRow : Trace → Entry → Type 0
IsMemberRow before r = MemberRecord before r.what

abbrev pub ShortRecord : Record → Type 0
ShortRecord (says.Join site epoch members) = IsShort members
ShortRecord _ = Unit {0}

-- the list that a site joins has no site beyond the sixteenth
abbrev pub IsShortRow : Trace → Entry → Type 0
IsShortRow before r = ShortRecord r.what

-- ---- armed disks ----

-- a site that is stopped within a disk call has its disk armed by a line, for a stop or for a fault
abbrev pub ArmedStop : Config → List ScheduleLine → ℕ → Trace → ℕ → StopCause → Type 0
ArmedStop c lines n before site cause.Asked = Unit {0}
ArmedStop c lines n before site cause.Fuse = is_armed_as false (armed_at c lines before n site) ≡ true
ArmedStop c lines n before site cause.Fault = is_armed_as true (armed_at c lines before n site) ≡ true

abbrev pub ArmedRecord : Config → List ScheduleLine → ℕ → Trace → Record → Type 0
ArmedRecord c lines n before (says.Stopped site why) = ArmedStop c lines n before site why
ArmedRecord c lines n before _ = Unit {0}

abbrev pub IsArmedFor : Config → List ScheduleLine → Trace → Entry → Type 0
IsArmedFor c lines before r = ArmedRecord c lines r.line before r.what
