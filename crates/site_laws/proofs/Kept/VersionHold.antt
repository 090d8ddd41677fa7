-- All that holds of versions in a run.
use Rattle.std.specs.Prelude.{List}
use Rattle.locus_ids.specs.declared.config.Config.{Config}
use Rattle.schedule_lines.specs.declared.line.ScheduleLine.{ScheduleLine}
use Rattle.the_run.specs.Runs.{run_in}
use Rattle.site_laws.proofs.Vectors.FactsRun.{run_vectors}
use Rattle.site_laws.proofs.Vectors.HistoryCovers.{run_held}
use Rattle.site_laws.proofs.Vectors.HistorySited.{run_vectors_tell, run_true_copies}
use Rattle.site_laws.proofs.Packs.InstanceAgree.{run_agrees}
use Rattle.site_laws.proofs.Packs.InodeFitsRun.{run_fits}
use Rattle.site_laws.proofs.Kept.StampLawsRun.{run_stamps}
use Rattle.site_laws.specs.Kept.VersionVersions.{VersionsHold}

pub run_versions_hold : (c : Config) (lines : List ScheduleLine) → VersionsHold (run_in c lines)
run_versions_hold c lines = record {
  once = run_stamps c lines;
  tell = λ file. run_vectors_tell c lines (run_agrees c lines) (run_stamps c lines) file;
  written = run_vectors c lines (run_agrees c lines);
  copies = run_true_copies c lines (run_agrees c lines) (run_stamps c lines);
  held = run_held c lines (run_agrees c lines) (run_stamps c lines) (run_fits c lines);
}
