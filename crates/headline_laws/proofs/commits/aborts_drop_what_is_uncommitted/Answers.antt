use Rattle.headline_laws.proofs.Promises.Aborting.{aborts_drop}
use Rattle.headline_laws.proofs.commits.aborts_drop_what_is_uncommitted.Goals as goal

pub returns : goal.returns
returns c = λ lines order. aborts_drop lines order
