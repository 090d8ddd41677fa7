-- In every run versions are ordered by ancestry, and what an epoch knows is under what it keeps.
use Rattle.std.specs.Prelude.{List}
use Rattle.locus_ids.specs.declared.config.Config.{Config}
use Rattle.schedule_lines.specs.declared.line.ScheduleLine.{ScheduleLine}
use Rattle.the_run.specs.Worlds.{World}
use Rattle.the_run.specs.Runs.{run_in}
use Rattle.site_laws.proofs.Vectors.FactsRun.{run_numbered}
use Rattle.site_laws.specs.Vectors.HistoryCommits.{SitesAreKnown}
use Rattle.site_laws.proofs.Vectors.HistorySited.{run_sited}
use Rattle.site_laws.proofs.Packs.InstanceAgree.{run_agrees}
use Rattle.site_laws.proofs.Kept.StampLawsRun.{run_stamps}
use Rattle.site_laws.specs.Kept.Printed.{versions_of, known_in}
use Rattle.site_laws.specs.Kept.Keeping.{VersionsAreOrdered, CommitsAreKept}
use Rattle.site_laws.proofs.Kept.Ordered.{ordered}
use Rattle.site_laws.proofs.Kept.Greatest.{under_kept}
use Rattle.site_laws.proofs.Kept.Grown.{versions_grow}

pub run_ordered : (c : Config) (lines : List ScheduleLine) → VersionsAreOrdered c (run_in c lines)
run_ordered c lines file =
    let w : World = run_in c lines in
    let s : SitesAreKnown w = run_sited c lines in
    ordered file (versions_of c w) (versions_grow c file w.trace (run_numbered c lines (run_agrees c lines)) s.commits (run_stamps c lines file))

pub run_kept : (c : Config) (lines : List ScheduleLine) → CommitsAreKept c (run_in c lines)
run_kept c lines e file known a is under = under_kept (versions_of c (run_in c lines)) file (run_ordered c lines file) (known_in c (run_in c lines) e file) known a is under
