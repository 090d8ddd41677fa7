use Rattle.row_laws.proofs.AskedRun.{run_members}
use Rattle.row_laws.proofs.laws.lists_have_who_joins.Goals as goal

pub returns : goal.returns
returns c = λ config lines none. run_members config lines none
