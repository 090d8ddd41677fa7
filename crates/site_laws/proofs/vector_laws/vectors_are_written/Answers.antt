use Rattle.site_laws.proofs.Vectors.FactsRun.{run_vectors}
use Rattle.site_laws.proofs.vector_laws.vectors_are_written.Goals as goal

pub returns : goal.returns
returns c = λ config lines h. run_vectors config lines h
