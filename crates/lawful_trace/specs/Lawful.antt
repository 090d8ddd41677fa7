-- The lawful trace: a row for each kind of record. What a row says of the records before stands apart from what it says of
-- the lines of the schedule, so that a trace whose schedule isn't known can be judged by the first part alone.
use Rattle.std.specs.Prelude.{ℕ, ◌≡◌, true, ◌&&◌, List, [], ◌∷◌, length, nat_le}
use Rattle.locus_ids.specs.declared.config.Config.{Config}
use Rattle.trace_book.specs.declared.entry.Entry.{Entry}
use Rattle.trace_book.specs.declared.record.Record.{Record}
use Rattle.trace_book.specs.declared.record.Record.TheVariants.{Up, Stopped, Leave, Join, Start, Accept, Look, Grant, Refuse, Act, Commit, Release, Adopt, Answer, Packet, Void, Budget}
use Rattle.disk_calls.specs.of_schedule_lines.declared.line.ScheduleLine.{ScheduleLine}
use Rattle.disk_calls.specs.of_schedule_lines.Cluster.{config_of}
use Rattle.tree_model.specs.Folds.{Trace, last_line}
use Rattle.lawful_trace.specs.SiteRows.{MayBoot, IsBootAsked, StopRow, StopLine, MayLeave, IsLeaveAsked, MayJoin, IsJoinAsked}
use Rattle.lawful_trace.specs.TreeRows.{MayStart, MayLook, MayGrant, MayRefuse, MayAct, MayCommit, MayRelease, MayAdopt}
use Rattle.lawful_trace.specs.CallRows.{CallRow, CallLine, MayAnswer}
use Rattle.lawful_trace.specs.LineRows.{IsVoidAsked, IsRoundAsked, IsListAsked, are_told}
use Rattle.lawful_trace.specs.Disks.{keeps_calls}

-- What must stand before a record.
abbrev pub MayCome : Config → Trace → Record → Type 0
MayCome c before (Up site boot) = MayBoot c before site boot
MayCome c before (Stopped site cause) = StopRow c before site cause
MayCome c before (Leave site epoch) = MayLeave before site epoch
MayCome c before (Join site epoch members) = MayJoin c before site epoch members
MayCome c before (Start e group copies) = MayStart c before e group copies
MayCome c before (Accept site process call words) = CallRow c before site process call words
MayCome c before (Look e call request f w result) = MayLook c before e call request f w result
MayCome c before (Grant e call request i m f stamp ss) = MayGrant c before e call request i m f stamp ss
MayCome c before (Refuse e call request i m f why) = MayRefuse c before e call request m f why
MayCome c before (Act e i k o result) = MayAct c before e i k o result
MayCome c before (Commit f site stamp parents content) = MayCommit c before f site stamp parents content
MayCome c before (Release e i f stamp) = MayRelease c before e i f stamp
MayCome c before (Adopt f site stamp) = MayAdopt c before f site stamp
MayCome c before (Answer site process call r) = MayAnswer c before site process call r
MayCome c before (Packet number from to kind) = Unit {0}
MayCome c before Void = Unit {0}
MayCome c before Budget = Unit {0}

-- What the lines must have asked for a record at the line with this number.
abbrev pub IsAsked : Config → List ScheduleLine → ℕ → Trace → Record → Type 0
IsAsked c lines n before (Up site boot) = IsBootAsked lines n site
IsAsked c lines n before (Stopped site cause) = StopLine c lines n before site cause
IsAsked c lines n before (Leave site epoch) = IsLeaveAsked lines n before site
IsAsked c lines n before (Join site epoch members) = IsJoinAsked lines n before epoch
IsAsked c lines n before (Accept site process call words) = CallLine lines n site process words
IsAsked c lines n before (Packet number from to kind) = IsListAsked lines n
IsAsked c lines n before Void = IsVoidAsked lines n before
IsAsked c lines n before Budget = IsRoundAsked lines n
IsAsked c lines n before _ = Unit {0}

-- Any trace.

-- The record is consistent with those before it: its line isn't an earlier one, and what must stand before it does.
pub record IsConsistentAfter (c : Config) (before : Trace) (r : Entry) : Type 0 where
  pub ascending : nat_le (last_line before) r.line ≡ true
  pub row : MayCome c before r.what

-- every record is, whatever schedule the trace may be of
abbrev pub IsConsistent : Config → Trace → Type 0
IsConsistent c [] = Unit {0}
IsConsistent c (r ∷ before) = IsConsistentAfter c before r × IsConsistent c before

-- The trace of a schedule.

-- The record comes as it may: it is consistent, its line is there, and the lines have asked what they must for it.
pub record Comes (c : Config) (lines : List ScheduleLine) (before : Trace) (r : Entry) : Type 0 where
  pub consistent : IsConsistentAfter c before r
  pub placed : nat_le 1 r.line && nat_le r.line (length lines) ≡ true
  pub asked : IsAsked c lines r.line before r.what

abbrev pub EachComes : Config → List ScheduleLine → Trace → Type 0
EachComes c lines [] = Unit {0}
EachComes c lines (r ∷ before) = Comes c lines before r × EachComes c lines before

-- A trace is lawful for the lines of a schedule: each record comes as it may, each void line tells that it is, each call,
-- stop, boot and giveup line that isn't void tells what came of it, and an armed disk that doesn't stop its site isn't
-- written more than its calls allow.
pub record IsLawful (lines : List ScheduleLine) (trace : Trace) : Type 0 where
  pub each : EachComes (config_of lines) lines trace
  pub told : are_told lines trace ≡ true
  pub calls : keeps_calls (config_of lines) lines trace ≡ true
