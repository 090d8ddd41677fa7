use Rattle.headline_laws.proofs.Promises.RunsHold.{commits_stay}
use Rattle.headline_laws.proofs.holding.commits_stay_held.Goals as goal

pub returns : goal.returns
returns c = λ lines order. commits_stay lines order
