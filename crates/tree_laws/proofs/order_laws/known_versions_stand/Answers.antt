use Rattle.tree_laws.proofs.Rows.{followed_rows}
use Rattle.tree_laws.specs.Printed.{entries}
use Rattle.tree_laws.proofs.Orders.Knowing.{versions_stand}
use Rattle.tree_laws.proofs.order_laws.known_versions_stand.Goals as goal

pub returns : goal.returns
returns c = record {
  rows = λ config trace h. versions_stand config trace h;
  told = λ config trace h. versions_stand config (entries trace) (followed_rows config trace h);
}
