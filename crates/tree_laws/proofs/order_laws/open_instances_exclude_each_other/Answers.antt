use Rattle.tree_laws.proofs.Rows.{followed_rows}
use Rattle.tree_laws.specs.Printed.{entries}
use Rattle.tree_laws.proofs.Orders.Alone.{rows_apart}
use Rattle.tree_laws.proofs.order_laws.open_instances_exclude_each_other.Goals as goal

pub returns : goal.returns
returns c = record {
  rows = λ config trace h e group. (rows_apart config trace h e group).alone;
  told = λ config trace h e group. (rows_apart config (entries trace) (followed_rows config trace h) e group).alone;
}
