use Rattle.dir_reconcile.proofs.JoinLaws.{commutative}
use Rattle.dir_reconcile.proofs.laws.join_is_commutative.Goals as goal

pub returns : goal.returns
returns c = commutative
