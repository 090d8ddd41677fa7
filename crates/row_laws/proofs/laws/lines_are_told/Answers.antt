use Rattle.row_laws.proofs.TalesKept.{run_tales}
use Rattle.row_laws.proofs.laws.lines_are_told.Goals as goal

pub returns : goal.returns
returns c = λ config lines fit none. run_tales config lines fit none
