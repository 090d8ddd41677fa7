use Rattle.calm_laws.proofs.Pulls.Under.{known_under}
use Rattle.calm_laws.proofs.pull_laws.known_are_under_the_only_kept.Goals as goal

pub returns : goal.returns
returns c = λ config trace past. known_under config trace past
