use Rattle.input_order_laws.proofs.Trees.{opening_in_order, tree_in_order}
use Rattle.input_order_laws.proofs.laws.trees_are_in_order.Goals as goal

pub returns-clause-opening : goal.returns-clause-opening
returns-clause-opening c = λ budget. opening_in_order budget

pub returns-clause-calls : goal.returns-clause-calls
returns-clause-calls c = λ calls. tree_in_order calls
