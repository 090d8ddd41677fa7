-- The promise that the records come by the rows of the lawful trace: a second formulation of the one tree, over folds of the trace.
use Rattle.std.specs.Prelude.{◌≡◌, true, List}
use Rattle.schedule_lines.specs.Cluster.{config_of}
use Rattle.schedule_lines.specs.declared.line.ScheduleLine.{ScheduleLine}
use Rattle.tree_model.specs.Folds.{Trace}
use Rattle.lawful_trace.specs.Disks.{keeps_calls}
use Rattle.lawful_trace.specs.Lawful.{EachComes}
use Rattle.row_laws.specs.Shown.{EachRecord}
use Rattle.headline_laws.specs.Prompting.Places.{StandsWhereItMay}
use Rattle.headline_laws.specs.Prompting.Speaks.{SpeaksOfWhatIs}

pub record RowsHold (lines : List ScheduleLine) (trace : Trace) : Type 0 where
  -- each record comes as the one tree of its epoch's members has it, each reply too, and is asked for by its line, which is one of these;
  -- their numbers ascend
  pub comes : EachComes (config_of lines) lines trace
  -- it stands at a line where sites do what it tells
  pub places : EachRecord (StandsWhereItMay lines) trace
  -- and speaks of sites of the cluster, and of boots that these have had
  pub speaks : EachRecord (SpeaksOfWhatIs (config_of lines)) trace
  -- an armed disk that stops nothing isn't written more than its calls allow
  pub calls : keeps_calls (config_of lines) lines trace ≡ true
