use Rattle.tree_model.specs.Histories.{history}
use Rattle.tree_laws.specs.Printed.{entries}
use Rattle.tree_laws.proofs.Rows.{followed_rows}
use Rattle.store_laws.proofs.Holdings.Ancestors.{ancestors_ordered}
use Rattle.store_laws.proofs.Holdings.Below.{commits_new}
use Rattle.store_laws.proofs.Holdings.Made.{rows_made}
use Rattle.store_laws.proofs.holding_laws.ancestors_are_an_order.Goals as goal

pub returns : goal.returns
returns c = λ config trace followed laws. ancestors_ordered (history config (entries trace)) (rows_made config (entries trace) (followed_rows config trace followed) (commits_new config trace followed laws.once))
