use Rattle.row_laws.proofs.AskedRun.{run_placed}
use Rattle.row_laws.proofs.laws.records_are_placed.Goals as goal

pub returns : goal.returns
returns c = λ config lines. run_placed config lines
