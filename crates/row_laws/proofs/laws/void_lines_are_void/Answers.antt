use Rattle.row_laws.proofs.Voids.{run_voids}
use Rattle.row_laws.proofs.laws.void_lines_are_void.Goals as goal

pub returns : goal.returns
returns c = λ config lines fit. run_voids config lines fit
