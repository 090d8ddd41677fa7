use Rattle.headline_laws.proofs.Whole.{run_lawful}
use Rattle.headline_laws.proofs.laws.runs_are_lawful.Goals as goal

pub returns : goal.returns
returns c = λ lines order none. run_lawful lines order none
