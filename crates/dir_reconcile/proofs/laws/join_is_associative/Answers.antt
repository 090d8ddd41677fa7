use Rattle.dir_reconcile.proofs.JoinLaws.{associative}
use Rattle.dir_reconcile.proofs.laws.join_is_associative.Goals as goal

pub returns : goal.returns
returns c = associative
