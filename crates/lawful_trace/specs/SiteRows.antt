-- The rows of the lawful trace that speak of sites: they boot, stop, leave an epoch and join one. Each row has two parts:
-- what must stand before the record, and what the lines of the schedule must have asked.
use Rattle.std.specs.Prelude.{ℕ, ◌≡◌, ◌-◌, ◌==◌, ◌⊎◌, Bool, true, false, not, ◌&&◌, ◌||◌, Option, None, Some, List, nat_lt}
use Rattle.std.specs.List.{list_any}
use Rattle.locus_ids.specs.declared.sites.Members.{Members}
use Rattle.locus_ids.specs.declared.ids.EpochId.{EpochId}
use Rattle.locus_ids.specs.declared.config.Config.{Config}
use Rattle.call_rules.specs.of_commit_graph.Vectors.{numbers_from}
use Rattle.trace_book.specs.declared.record.StopCause.{StopCause}
use Rattle.trace_book.specs.declared.record.StopCause.TheVariants as cause
use Rattle.disk_calls.specs.of_schedule_lines.declared.line.ScheduleLine.{ScheduleLine}
use Rattle.disk_calls.specs.of_schedule_lines.declared.line.ScheduleLine.TheVariants.{Event}
use Rattle.disk_calls.specs.of_schedule_lines.declared.line.Line.TheVariants as line
use Rattle.tree_model.specs.Folds.{Trace, before_line}
use Rattle.tree_model.specs.Epochs.{is_up, boot_of, epoch_of, has_joined, last_joined, is_above_joined, members_of}
use Rattle.tree_model.specs.Packs.{boot_in}
use Rattle.lawful_trace.specs.Places.{line_at, initiator}
use Rattle.lawful_trace.specs.Disks.{armed_at, is_armed_as, may_cut}

-- Boots and stops.

-- A stopped site boots with a number above all that it had.
pub record MayBoot (c : Config) (before : Trace) (site boot : ℕ) : Type 0 where
  pub stopped : is_up c before site ≡ false
  pub above : nat_lt (boot_of before site) boot ≡ true

-- Its line asks for it.
pub record IsBootAsked (lines : List ScheduleLine) (n site : ℕ) : Type 0 where
  pub asked : line_at lines n ≡ Event (line.Boot site)

-- A running site stops.
pub record MayStop (c : Config) (before : Trace) (site : ℕ) : Type 0 where
  pub up : is_up c before site ≡ true

-- Its line asks for it.
pub record IsStopAsked (lines : List ScheduleLine) (n site : ℕ) : Type 0 where
  pub asked : line_at lines n ≡ Event (line.Stop site)

-- a site that is stopped within a disk call may do so in its boot, and then it doesn't run
abbrev pub StopRow : Config → Trace → ℕ → StopCause → Type 0
StopRow c before site cause.Asked = MayStop c before site
StopRow c before site cause.Fuse = Unit {0}
StopRow c before site cause.Fault = Unit {0}

-- the line boots the site
abbrev pub boots : ScheduleLine → ℕ → Bool
boots (Event (line.Boot s)) site = s == site
boots _ site = false

-- A site that runs or boots is stopped within a disk call, as a line has armed its disk: for a fault, or for a stop.
pub record IsCutAsked (c : Config) (lines : List ScheduleLine) (n : ℕ) (before : Trace) (site : ℕ) (fault : Bool) : Type 0 where
  pub working : is_up c before site || boots (line_at lines n) site ≡ true
  pub armed : is_armed_as fault (armed_at c lines before n site) ≡ true
  pub counted : may_cut c lines before n site ≡ true

abbrev pub StopLine : Config → List ScheduleLine → ℕ → Trace → ℕ → StopCause → Type 0
StopLine c lines n before site cause.Asked = IsStopAsked lines n site
StopLine c lines n before site cause.Fuse = IsCutAsked c lines n before site false
StopLine c lines n before site cause.Fault = IsCutAsked c lines n before site true

-- Leaves.

-- the line has the site give up, part or merge
abbrev pub makes_leave : ScheduleLine → ℕ → Bool
makes_leave (Event (line.GiveUp s)) site = s == site
makes_leave (Event (line.Part s)) site = s == site
makes_leave (Event (line.Merge s)) site = s == site
makes_leave _ site = false

abbrev pub is_another : Option ℕ → ℕ → Bool
is_another None site = false
is_another (Some other) site = not (other == site)

-- another site started a protocol by an earlier line
abbrev pub was_polled : List ScheduleLine → Trace → ℕ → ℕ → Bool
was_polled lines before n site = list_any (λ m. is_another (initiator lines before m) site) (numbers_from 1 (n - 1))

-- A site leaves the epoch that it is in.
pub record MayLeave (before : Trace) (site : ℕ) (e : EpochId) : Type 0 where
  pub inside : epoch_of before site ≡ Some e

-- It does so by a line of its own, or for the protocol of another site.
pub record IsLeaveAsked (lines : List ScheduleLine) (n : ℕ) (before : Trace) (site : ℕ) : Type 0 where
  pub cause : makes_leave (line_at lines n) site || was_polled lines before n site ≡ true

-- Joins.

abbrev pub is_site : Option ℕ → ℕ → Bool
is_site None site = false
is_site (Some s) site = s == site

-- the site started a protocol by this line, in this boot
abbrev pub starts_in : List ScheduleLine → Trace → ℕ → ℕ → ℕ → Bool
starts_in lines before m site boot = is_site (initiator lines before m) site && (boot_of (before_line before m) site == boot)

-- the site of the epoch started a protocol by a line up to this one, in the boot that the epoch names
abbrev pub is_asked_for : List ScheduleLine → Trace → ℕ → EpochId → Bool
is_asked_for lines before n e = list_any (λ m. starts_in lines before m e.site e.boot) (numbers_from 1 n)

-- A site that runs joins an epoch that it never joined, above all that it joined in this boot, as one of its members;
-- every member joins it with the same list.
pub record MayJoin (c : Config) (before : Trace) (site : ℕ) (e : EpochId) (members : Members) : Type 0 where
  pub up : is_up c before site ≡ true
  pub outside : epoch_of before site ≡ None
  pub new : has_joined before site e ≡ false
  pub later : is_above_joined (last_joined before site) e ≡ true
  pub same : members_of before e ≡ None ⊎ members_of before e ≡ Some members
  pub member : boot_in members site ≡ boot_of before site

-- The epoch was asked for.
pub record IsJoinAsked (lines : List ScheduleLine) (n : ℕ) (before : Trace) (e : EpochId) : Type 0 where
  pub asked : is_asked_for lines before n e ≡ true
