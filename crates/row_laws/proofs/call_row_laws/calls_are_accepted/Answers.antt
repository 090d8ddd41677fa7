use Rattle.row_laws.proofs.CallRows.CallsRun.{run_accepts}
use Rattle.row_laws.proofs.call_row_laws.calls_are_accepted.Goals as goal

pub returns : goal.returns
returns c = λ config lines fit. run_accepts config lines fit
