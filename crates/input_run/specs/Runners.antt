-- Where the two runners of lines stand.
use Rattle.std.specs.Prelude.{ℕ, ◌≡◌, List}
use Rattle.schedule_lines.specs.declared.line.ScheduleLine.{ScheduleLine}
use Rattle.schedule_lines.specs.Schedule.{IsSchedule}
use Rattle.the_run.specs.Commands.{Asked, tree_lines}
use Rattle.schedule_run.specs.declared.runner.ScheduleRunner.{ScheduleRunner}
use Rattle.schedule_run.specs.Standing.{HasRun}
use Rattle.schedule_run.specs.declared.tree.TreeRunner.{TreeRunner}
use Rattle.schedule_run.specs.Tree.{HasRun as HasAsked}
use Rattle.input_run.specs.Inputs.{AskAll}

-- the lines of bytes are this schedule, which is run
pub record ScheduleStands (bytes : List (List ℕ)) (lines : List ScheduleLine) (taken : List ℕ) (r : ScheduleRunner) : Type 0 where
  pub schedule : IsSchedule bytes lines
  pub ran : HasRun lines taken r

-- the lines of bytes ask some calls, and these are the lines of their run
pub record TreeStands (bytes : List (List ℕ)) (lines : List ScheduleLine) (taken : List ℕ) (r : TreeRunner) : Type 0 where
  pub calls : List Asked
  pub asked : AskAll bytes calls
  pub run : lines ≡ tree_lines calls
  pub ran : HasAsked calls taken r
