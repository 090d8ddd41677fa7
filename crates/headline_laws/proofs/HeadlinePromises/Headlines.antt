-- Every run keeps the headline.
use Rattle.std.proofs.Common.{List, reverse}
use Rattle.schedule_lines.specs.Cluster.{config_of}
use Rattle.schedule_lines.specs.Schedule.{AreInOrder}
use Rattle.schedule_lines.specs.declared.line.ScheduleLine.{ScheduleLine}
use Rattle.the_run.specs.Runs.{run}
use Rattle.row_laws.specs.Shown.{trace_of}
use Rattle.promises.specs.Headline.{Headline}
use Rattle.past_laws.proofs.Agreeing.{one_tree}
use Rattle.headline_laws.proofs.Promises.VersionsNow.{versions_throughout}
use Rattle.headline_laws.proofs.HeadlinePromises.AcknowledgedRuns.{run_acknowledged}
use Rattle.headline_laws.proofs.HeadlinePromises.Comes.{run_comes_so, run_is_named}
use Rattle.headline_laws.proofs.HeadlinePromises.Flagged.{run_flags_rightly}
use Rattle.headline_laws.proofs.HeadlinePromises.Kept.{kept}
use Rattle.headline_laws.proofs.HeadlinePromises.Served.{served_whole}
use Rattle.headline_laws.proofs.HeadlinePromises.Whole.{whole}

pub run_keeps_headline : (lines : List ScheduleLine) → AreInOrder lines → Headline lines (reverse (trace_of (run lines)))
run_keeps_headline lines order = record {
  one_tree = one_tree (config_of lines) (run_is_named lines order) (trace_of (run lines)) (run_comes_so lines order);
  whole = whole (config_of lines) (run_is_named lines order) (trace_of (run lines)) (run_comes_so lines order);
  served = served_whole (config_of lines) (run_is_named lines order) (trace_of (run lines)) (run_comes_so lines order);
  acknowledged = run_acknowledged lines order;
  kept = kept (config_of lines) (run_is_named lines order) (trace_of (run lines)) (run_comes_so lines order) (versions_throughout lines order);
  flagged = run_flags_rightly lines order;
}
