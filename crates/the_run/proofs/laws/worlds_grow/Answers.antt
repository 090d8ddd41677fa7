use Rattle.the_run.proofs.Growing.{run_grows}
use Rattle.the_run.proofs.laws.worlds_grow.Goals as goal

pub returns : goal.returns
returns c = λ config lines more. run_grows config lines more
