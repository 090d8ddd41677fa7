-- What is promised of the trace of a schedule.
use Rattle.std.specs.Prelude.{List}
use Rattle.disk_calls.specs.of_schedule_lines.declared.line.ScheduleLine.{ScheduleLine}
use Rattle.tree_model.specs.Folds.{Trace}
use Rattle.lawful_trace.specs.Lawful.{IsLawful}
use Rattle.lawful_trace.specs.Calm.{CalmRoundsAnswer}
use Rattle.lawful_trace.specs.Orderly.{OrderlyBlocksForm, LeavesAreOwn}

-- It is lawful; after calm rounds no call of a member waits; and where the schedule is orderly, the lines that part and
-- merge form the epochs that they should, and sites leave for no other reason.
pub record Keeps (lines : List ScheduleLine) (trace : Trace) : Type 0 where
  pub lawful : IsLawful lines trace
  pub answered : CalmRoundsAnswer lines trace
  pub formed : OrderlyBlocksForm lines trace
  pub leaves : LeavesAreOwn lines trace
