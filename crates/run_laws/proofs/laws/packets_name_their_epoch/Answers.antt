use Rattle.run_laws.proofs.Rises.{run_names}
use Rattle.run_laws.proofs.laws.packets_name_their_epoch.Goals as goal

pub returns : goal.returns
returns c = λ config lines. run_names config lines
