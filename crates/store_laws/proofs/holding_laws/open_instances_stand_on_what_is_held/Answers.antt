use Rattle.store_laws.proofs.Holdings.Distinct.{open_now}
use Rattle.store_laws.proofs.Holdings.Holding.{stands_on_held}
use Rattle.store_laws.proofs.Holdings.Released.{released_shut}
use Rattle.store_laws.proofs.holding_laws.open_instances_stand_on_what_is_held.Goals as goal

pub returns : goal.returns
returns c = record {
  stands = λ config trace e i x followed k. stands_on_held config trace followed e i x k;
  over = λ config trace e i x followed k found. released_shut config trace followed e i x k found;
  one = λ config trace e group i x followed k. open_now config trace followed e group i x k;
}
