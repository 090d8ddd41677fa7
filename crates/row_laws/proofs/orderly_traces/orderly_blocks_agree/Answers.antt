use Rattle.row_laws.proofs.OrderlyRows.Course.{orderly_blocks_agree}
use Rattle.row_laws.proofs.orderly_traces.orderly_blocks_agree.Goals as goal

pub returns : goal.returns
returns c = λ lines fits within. orderly_blocks_agree lines fits within
