use Rattle.headline_laws.proofs.Promises.CommitsAsked.{commits_asked}
use Rattle.headline_laws.proofs.commits.commits_come_when_asked.Goals as goal

pub returns : goal.returns
returns c = λ lines order. commits_asked lines order
