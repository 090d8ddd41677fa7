use Rattle.headline_laws.proofs.Promises.CommitsGranted.{never_refused}
use Rattle.headline_laws.proofs.commits.commits_are_not_refused.Goals as goal

pub returns : goal.returns
returns c = λ lines order. never_refused lines order
