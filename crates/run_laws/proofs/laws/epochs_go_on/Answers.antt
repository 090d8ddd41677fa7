use Rattle.run_laws.proofs.Rises.{run_goes_on}
use Rattle.run_laws.proofs.laws.epochs_go_on.Goals as goal

pub returns : goal.returns
returns c = λ config lines. run_goes_on config lines
