-- Rounds that start calm, by the records that they tell.
use Rattle.std.specs.Prelude.{ℕ, ◌≡◌, ◌≤◌, true, List, Some}
use Rattle.locus_ids.specs.declared.ids.EpochId.{EpochId}
use Rattle.locus_ids.specs.declared.sites.Members.{Members}
use Rattle.schedule_lines.specs.Cluster.{config_of}
use Rattle.schedule_lines.specs.declared.line.Line.TheVariants as line
use Rattle.schedule_lines.specs.declared.line.ScheduleLine.{ScheduleLine}
use Rattle.schedule_lines.specs.declared.line.ScheduleLine.TheVariants.{Event}
use Rattle.the_run.specs.Runs.{run, run_in}
use Rattle.tree_model.specs.Epochs.{members_of}
use Rattle.tree_model.specs.Packs.{is_member}
use Rattle.lawful_trace.specs.Calm.{AreTogether, IsCalmRound}
use Rattle.lawful_trace.specs.Places.{line_at, lines_before}
use Rattle.row_laws.specs.Orderly.Calm.{AreTogether as AreTogetherIn, StartsCalm}
use Rattle.row_laws.specs.Shown.{trace_of}

-- Members that are together in the world are so by the records, which have told their list; and members whose list the records have
-- told, and who are together by them, are so in the world.
pub record TogetherIsTold (lines : List ScheduleLine) : Type 0 where
  pub told : (s : ℕ) (e : EpochId) (members : Members) → is_member members s ≡ true → AreTogetherIn (run lines) (record { id = e; members = members }) → members_of (trace_of (run lines)) e ≡ Some members × AreTogether (config_of lines) lines (trace_of (run lines)) e members
  pub meant : (e : EpochId) (members : Members) → members_of (trace_of (run lines)) e ≡ Some members → AreTogether (config_of lines) lines (trace_of (run lines)) e members → AreTogetherIn (run lines) (record { id = e; members = members })

-- A round with a budget of 262,144 or more that starts calm for an epoch with members is a calm round of it by the records.
abbrev pub SteadyRoundsAreCalm : List ScheduleLine → Type 0
SteadyRoundsAreCalm lines = (n most s : ℕ) (e : EpochId) (members : Members) → line_at lines n ≡ Event (line.Settle most) → 262144 ≤ most → is_member members s ≡ true →
    StartsCalm (run_in (config_of lines) (lines_before lines n)) (record { id = e; members = members }) → IsCalmRound lines (trace_of (run lines)) n e members
