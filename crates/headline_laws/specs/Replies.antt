-- The promise of replies: what they say, and when they come.
use Rattle.std.specs.Prelude.{List}
use Rattle.schedule_lines.specs.Cluster.{config_of}
use Rattle.schedule_lines.specs.declared.line.ScheduleLine.{ScheduleLine}
use Rattle.tree_model.specs.Folds.{Trace}
use Rattle.row_laws.specs.Shown.{EachRecord}
use Rattle.headline_laws.specs.Prompting.Alone.{StandsAlone}
use Rattle.headline_laws.specs.Prompting.Directly.{IsDirectRow}
use Rattle.headline_laws.specs.Prompting.Due.{RepliesComeNext}
use Rattle.headline_laws.specs.Prompting.Given.{IsGivenRow}

pub record RepliesHold (lines : List ScheduleLine) (trace : Trace) : Type 0 where
  -- each reply is the very one that the script of its call gives
  pub given : EachRecord (IsGivenRow (config_of lines)) trace
  -- it stands directly after what it answers, and one that is due comes next
  pub directly : EachRecord (IsDirectRow (config_of lines)) trace
  pub next : RepliesComeNext (config_of lines) trace
  -- beside a record that a line is void there is none of that line
  pub alone : EachRecord StandsAlone trace
