use Rattle.run_laws.proofs.Rises.{run_steps_name}
use Rattle.run_laws.proofs.laws.steps_name_their_epoch.Goals as goal

pub returns : goal.returns
returns c = λ config lines. run_steps_name config lines
