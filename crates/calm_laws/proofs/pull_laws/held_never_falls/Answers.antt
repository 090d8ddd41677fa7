use Rattle.calm_laws.proofs.Pulls.Falling.{never_falls}
use Rattle.calm_laws.proofs.pull_laws.held_never_falls.Goals as goal

pub returns : goal.returns
returns c = λ config new old. never_falls config new old
