-- The law of one version, of traces and of runs.
use Rattle.std.specs.Prelude.{List}
use Rattle.locus_ids.specs.declared.config.Config.{Config}
use Rattle.schedule_lines.specs.Cluster.{config_of}
use Rattle.schedule_lines.specs.Schedule.{AreInOrder}
use Rattle.schedule_lines.specs.declared.line.ScheduleLine.{ScheduleLine}
use Rattle.the_run.specs.Runs.{run}
use Rattle.the_run.specs.Worlds.{Line}
use Rattle.tree_laws.specs.Printed.{entries}
use Rattle.calm_laws.specs.of_store_laws.OneTree.Rest.{Past}
use Rattle.row_laws.specs.Shown.{EachRecord, trace_of}
use Rattle.headline_laws.specs.Prompting.Given.{IsGivenRow}
use Rattle.steady_laws.specs.OneVersion.{ReadsOneVersion}

-- each trace whose lines came as they may, and whose replies are those that the scripts of their calls give
abbrev pub TracesReadOneVersion : Type 0
TracesReadOneVersion = (c : Config) (trace : List Line) → Past c trace → EachRecord (IsGivenRow c) (entries trace) → ReadsOneVersion c (entries trace)

-- each run
abbrev pub RunsReadOneVersion : Type 0
RunsReadOneVersion = (lines : List ScheduleLine) → AreInOrder lines → ReadsOneVersion (config_of lines) (trace_of (run lines))
