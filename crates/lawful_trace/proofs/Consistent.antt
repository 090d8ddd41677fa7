-- A record that comes as it may is consistent with those before it.
use Rattle.std.specs.Prelude.{List, [], ◌∷◌}
use Rattle.locus_ids.specs.declared.config.Config.{Config}
use Rattle.disk_calls.specs.of_schedule_lines.declared.line.ScheduleLine.{ScheduleLine}
use Rattle.tree_model.specs.Folds.{Trace}
use Rattle.lawful_trace.specs.Lawful.{EachComes, IsConsistent}

pub consistent : (c : Config) (lines : List ScheduleLine) (trace : Trace) → EachComes c lines trace → IsConsistent c trace
consistent c lines [] each = tt
consistent c lines (r ∷ before) each = (each.0.consistent, consistent c lines before each.1)
