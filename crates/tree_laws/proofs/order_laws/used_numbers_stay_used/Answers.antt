use Rattle.tree_laws.proofs.Orders.Used.{full_stays, used_stays}
use Rattle.tree_laws.proofs.order_laws.used_numbers_stay_used.Goals as goal

pub returns : goal.returns
returns c = record {
  used = λ config x older e ss f k. used_stays config x older e ss f k;
  full = λ config x older e ss group k. full_stays config x older e ss group k;
}
