use Rattle.site_laws.proofs.Vectors.FactsRun.{run_numbered}
use Rattle.site_laws.proofs.vector_laws.commits_are_numbered.Goals as goal

pub returns : goal.returns
returns c = λ config lines h. run_numbered config lines h
