use Rattle.the_run.proofs.OneList.{epochs_joined}
use Rattle.the_run.proofs.laws.epochs_are_joined.Goals as goal

pub returns : goal.returns
returns c = λ config lines. epochs_joined config lines
