use Rattle.site_laws.proofs.Vectors.HistorySited.{run_vectors_tell}
use Rattle.site_laws.proofs.history.vectors_tell_ancestors.Goals as goal

pub returns : goal.returns
returns c = λ config lines agree once file. run_vectors_tell config lines agree once file
