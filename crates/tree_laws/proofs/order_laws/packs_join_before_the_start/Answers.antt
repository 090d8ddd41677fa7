use Rattle.tree_laws.proofs.Rows.{followed_rows}
use Rattle.tree_laws.specs.Printed.{entries}
use Rattle.tree_laws.proofs.Orders.Joining.{no_pack_comes}
use Rattle.tree_laws.proofs.order_laws.packs_join_before_the_start.Goals as goal

pub returns : goal.returns
returns c = record {
  rows = λ config before few h. no_pack_comes config before few h;
  told = λ config trace few h. no_pack_comes config (entries trace) few (followed_rows config trace h);
}
