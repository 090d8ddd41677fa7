-- All that holds of versions and copies in a run.
use Rattle.std.specs.Prelude.{◌≤◌, List, length}
use Rattle.locus_ids.specs.declared.config.Config.{Config}
use Rattle.schedule_lines.specs.declared.line.ScheduleLine.{ScheduleLine}
use Rattle.the_run.specs.Runs.{run_in}
use Rattle.site_laws.proofs.Vectors.Held.{run_copies}
use Rattle.site_laws.proofs.Vectors.FactsRun.{run_numbered}
use Rattle.site_laws.proofs.Packs.InstanceAgree.{run_agrees}
use Rattle.site_laws.proofs.Packs.InodeFitsRun.{run_fits}
use Rattle.site_laws.proofs.Kept.RootsRun.{run_roots}
use Rattle.site_laws.proofs.Kept.NamesRun.{run_named}
use Rattle.site_laws.proofs.Kept.Hold.{run_kept_hold}
use Rattle.tree_laws.specs.Orders.Joining.{PacksAreOfSites}
use Rattle.store_laws.specs.of_row_laws.Voids.{LinesFit}
use Rattle.rest_laws.specs.CopiesKept.Hold.{VersionsAndCopiesHold, VersionsStand}
use Rattle.rest_laws.proofs.CopiesKept.Contents.{run_contents}

pub run_versions : (c : Config) (lines : List ScheduleLine) → VersionsStand c (run_in c lines)
run_versions c lines = record {
  kept = run_kept_hold c lines;
  numbered = run_numbered c lines (run_agrees c lines);
  roots = run_roots c lines;
  named = run_named c lines;
  fit = run_fits c lines;
  told = run_copies c lines;
}

pub run_versions_and_copies : (c : Config) (lines : List ScheduleLine) → LinesFit c lines → PacksAreOfSites c → length c.packs ≤ 4 → VersionsAndCopiesHold c (run_in c lines)
run_versions_and_copies c lines fit packs few = record { versions = run_versions c lines; contents = run_contents c lines fit packs few }
