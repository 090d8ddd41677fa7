use Rattle.site_laws.proofs.Vectors.Held.{run_copies}
use Rattle.site_laws.proofs.vector_laws.copies_are_told.Goals as goal

pub returns : goal.returns
returns c = λ config lines. run_copies config lines
