use Rattle.tree_laws.proofs.Rows.{followed_rows}
use Rattle.tree_laws.specs.Printed.{entries}
use Rattle.tree_laws.proofs.Orders.Keeping.{versions_kept}
use Rattle.tree_laws.proofs.order_laws.kept_versions_stay.Goals as goal

pub returns : goal.returns
returns c = record {
  rows = λ config line r before few may h. versions_kept config line r before few may h;
  told = λ config line r trace few may h. versions_kept config line r (entries trace) few may.row (followed_rows config trace h);
}
