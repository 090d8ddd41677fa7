-- All that makes a trace prompt, record by record.
use Rattle.std.proofs.Common.{List, [], ◌∷◌}
use Rattle.locus_ids.specs.declared.config.Config.{Config}
use Rattle.schedule_lines.specs.Cluster.{config_of}
use Rattle.schedule_lines.specs.Schedule.{AreInOrder}
use Rattle.schedule_lines.specs.declared.line.ScheduleLine.{ScheduleLine}
use Rattle.tree_model.specs.Folds.{Trace}
use Rattle.lawful_trace.specs.Prompt.{EachPromptly, IsPrompt}
use Rattle.the_run.specs.Runs.{run}
use Rattle.row_laws.specs.Shown.{EachRecord, trace_of}
use Rattle.headline_laws.specs.Prompting.Alone.{StandsAlone}
use Rattle.headline_laws.specs.Prompting.Due.{IsDueRow, RepliesComeNext}
use Rattle.headline_laws.specs.Prompting.Places.{StandsWhereItMay}
use Rattle.headline_laws.specs.Prompting.Stops.{HeedsItsDisk}
use Rattle.headline_laws.proofs.Prompting.Heeding.{stops_next}
use Rattle.headline_laws.proofs.Prompting.Lines.{run_stands}
use Rattle.headline_laws.proofs.Prompting.RunDue.{replies_next}
use Rattle.headline_laws.proofs.Prompting.RunPlaces.{records_stand}

each_prompt : (c : Config) (lines : List ScheduleLine) (t : Trace) → EachRecord (IsDueRow c) t → EachRecord (StandsWhereItMay lines) t → EachRecord StandsAlone t → EachRecord (HeedsItsDisk c lines) t → EachPromptly c lines t
each_prompt c lines [] replies places alone stops = tt
each_prompt c lines (r ∷ before) replies places alone stops = (record { reply = replies.0; place = places.0; first = alone.0.first; alone = alone.0.alone; stop = stops.0 }, each_prompt c lines before replies.1 places.1 alone.1 stops.1)

pub run_prompt : (lines : List ScheduleLine) → AreInOrder lines → IsPrompt lines (trace_of (run lines))
run_prompt lines order =
    let c : Config = config_of lines in
    let due : RepliesComeNext c (trace_of (run lines)) = replies_next lines order in
    record { each = each_prompt c lines (trace_of (run lines)) due.each (records_stand lines order) (run_stands c lines) (stops_next lines order); ended = due.ended }
