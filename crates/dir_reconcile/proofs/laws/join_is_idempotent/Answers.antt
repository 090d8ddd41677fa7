use Rattle.dir_reconcile.proofs.JoinLaws.{idempotent}
use Rattle.dir_reconcile.proofs.laws.join_is_idempotent.Goals as goal

pub returns : goal.returns
returns c = idempotent
