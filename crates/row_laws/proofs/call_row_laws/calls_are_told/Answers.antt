use Rattle.row_laws.proofs.CallRows.CallTales.{run_calls_told}
use Rattle.row_laws.proofs.call_row_laws.calls_are_told.Goals as goal

pub returns : goal.returns
returns c = λ config lines fit none. run_calls_told config lines fit none
