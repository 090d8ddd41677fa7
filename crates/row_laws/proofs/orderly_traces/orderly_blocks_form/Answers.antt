use Rattle.row_laws.proofs.OrderlyRows.Forms.{blocks_form}
use Rattle.row_laws.proofs.orderly_traces.orderly_blocks_form.Goals as goal

pub returns : goal.returns
returns c = λ lines order within. blocks_form lines order within
