-- The lines of the schedule ask for the trace of every run that passes no limit.
use Rattle.std.proofs.Common.{List, reverse}
use Rattle.schedule_lines.specs.Cluster.{config_of}
use Rattle.schedule_lines.specs.Schedule.{AreInOrder}
use Rattle.schedule_lines.specs.declared.line.ScheduleLine.{ScheduleLine}
use Rattle.lawful_trace.specs.Lawful.{IsLawful}
use Rattle.the_run.specs.Runs.{run}
use Rattle.row_laws.specs.Shown.{trace_of}
use Rattle.promises.specs.Lines.{IsAskedFor}
use Rattle.headline_laws.proofs.HeadlinePromises.Asked.{run_ascends}
use Rattle.headline_laws.proofs.HeadlinePromises.Stopping.{run_asks_each, run_heeds, run_wrote}
use Rattle.headline_laws.proofs.HeadlinePromises.Told.{run_told}

-- a run that passes no limit is lawful by its lines
pub run_asked_for : (lines : List ScheduleLine) → AreInOrder lines → IsLawful lines (trace_of (run lines)) → IsAskedFor (config_of lines) lines (reverse (trace_of (run lines)))
run_asked_for lines order lawful = record {
  wrote = run_wrote lines order;
  asked = record { ascending = run_ascends lines; each = run_asks_each lines order; told = run_told lines order lawful; heeded = run_heeds lines order };
}
