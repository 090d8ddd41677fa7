use Rattle.run_laws.proofs.Epochs.Run.{run_waits}
use Rattle.run_laws.proofs.epoch_laws.rounds_wait.Goals as goal

pub returns : goal.returns
returns c = λ config lines. run_waits config lines
