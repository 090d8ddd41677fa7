use Rattle.row_laws.proofs.CallRows.CallTales.{run_void_calls}
use Rattle.row_laws.proofs.call_row_laws.void_calls_are_void.Goals as goal

pub returns : goal.returns
returns c = λ config lines fit. run_void_calls config lines fit
