use Rattle.calm_laws.proofs.Ending.{nobody_waits}
use Rattle.calm_laws.proofs.laws.nobody_waits_where_nothing_comes.Goals as goal

pub returns : goal.returns
returns c = λ config. nobody_waits config
