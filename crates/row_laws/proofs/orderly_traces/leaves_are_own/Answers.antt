use Rattle.row_laws.proofs.OrderlyRows.OwnLeaves.{leaves_are_own}
use Rattle.row_laws.proofs.orderly_traces.leaves_are_own.Goals as goal

pub returns : goal.returns
returns c = λ lines order within. leaves_are_own lines order within
