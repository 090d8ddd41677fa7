-- Where a run over the fixed cluster stands.
use Rattle.std.specs.Prelude.{◌≡◌, List, length}
use Rattle.schedule_lines.specs.Cluster.{config_of}
use Rattle.schedule_lines.specs.declared.line.ScheduleLine.{ScheduleLine}
use Rattle.the_run.specs.Runs.{run}
use Rattle.world.specs.States.{state_of}
use Rattle.world.specs.Shown.{Taken, Shows}
use Rattle.schedule_run.specs.declared.opened.OpenedRun.{OpenedRun}

-- these lines were run, and this was taken of what is written
pub record HasDone (lines : List ScheduleLine) (taken : Taken) (r : OpenedRun) : Type 0 where
  pub count : r.lines ≡ length lines
  pub world : Shows (config_of lines) taken (run lines) (state_of r.world)
