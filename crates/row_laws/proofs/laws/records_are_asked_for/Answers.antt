use Rattle.row_laws.proofs.AskedRun.{run_asked}
use Rattle.row_laws.proofs.laws.records_are_asked_for.Goals as goal

pub returns : goal.returns
returns c = λ config lines. run_asked config lines
