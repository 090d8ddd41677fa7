use Rattle.site_laws.proofs.Kept.VectorsKeep.{run_vectors_keep}
use Rattle.site_laws.proofs.kept_laws.vectors_keep_the_same.Goals as goal

pub returns : goal.returns
returns c = λ config lines. run_vectors_keep config lines
