use Rattle.row_laws.proofs.Sum.{run_lawful}
use Rattle.row_laws.proofs.laws.the_rest_makes_runs_lawful.Goals as goal

pub returns : goal.returns
returns c = λ lines none h. run_lawful lines none h
