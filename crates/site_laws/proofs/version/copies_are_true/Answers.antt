use Rattle.site_laws.proofs.Vectors.HistorySited.{run_true_copies}
use Rattle.site_laws.proofs.Packs.InstanceAgree.{run_agrees}
use Rattle.site_laws.proofs.Kept.StampLawsRun.{run_stamps}
use Rattle.site_laws.proofs.version.copies_are_true.Goals as goal

pub returns : goal.returns
returns c = λ config lines. run_true_copies config lines (run_agrees config lines) (run_stamps config lines)
