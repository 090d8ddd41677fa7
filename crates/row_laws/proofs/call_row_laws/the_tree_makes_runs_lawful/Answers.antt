use Rattle.row_laws.proofs.CallRows.TreeSum.{tree_lawful}
use Rattle.row_laws.proofs.call_row_laws.the_tree_makes_runs_lawful.Goals as goal

pub returns : goal.returns
returns c = λ lines none meets. tree_lawful lines none meets
