use Rattle.site_laws.proofs.Vectors.HistorySited.{run_vectors_tell}
use Rattle.site_laws.proofs.Packs.InstanceAgree.{run_agrees}
use Rattle.site_laws.proofs.Kept.StampLawsRun.{run_stamps}
use Rattle.site_laws.proofs.version.vectors_tell_ancestors.Goals as goal

pub returns : goal.returns
returns c = λ config lines file. run_vectors_tell config lines (run_agrees config lines) (run_stamps config lines) file
