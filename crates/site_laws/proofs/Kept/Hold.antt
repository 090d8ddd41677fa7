-- All that holds of versions in a run, and of what epochs keep.
use Rattle.std.specs.Prelude.{List}
use Rattle.locus_ids.specs.declared.config.Config.{Config}
use Rattle.schedule_lines.specs.declared.line.ScheduleLine.{ScheduleLine}
use Rattle.the_run.specs.Runs.{run_in}
use Rattle.site_laws.proofs.Kept.VersionHold.{run_versions_hold}
use Rattle.site_laws.specs.Kept.Kept.{KeptVersionsHold}
use Rattle.site_laws.proofs.Kept.KeptRun.{run_ordered, run_kept}
use Rattle.site_laws.proofs.Kept.VectorsKeep.{run_vectors_keep}

pub run_kept_hold : (c : Config) (lines : List ScheduleLine) → KeptVersionsHold c (run_in c lines)
run_kept_hold c lines = record {
  versions = run_versions_hold c lines;
  ordered = run_ordered c lines;
  kept = run_kept c lines;
  same = run_vectors_keep c lines;
}
