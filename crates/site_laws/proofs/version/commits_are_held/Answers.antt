use Rattle.site_laws.proofs.Vectors.HistoryCovers.{run_held}
use Rattle.site_laws.proofs.Packs.InstanceAgree.{run_agrees}
use Rattle.site_laws.proofs.Packs.InodeFitsRun.{run_fits}
use Rattle.site_laws.proofs.Kept.StampLawsRun.{run_stamps}
use Rattle.site_laws.proofs.version.commits_are_held.Goals as goal

pub returns : goal.returns
returns c = λ config lines. run_held config lines (run_agrees config lines) (run_stamps config lines) (run_fits config lines)
