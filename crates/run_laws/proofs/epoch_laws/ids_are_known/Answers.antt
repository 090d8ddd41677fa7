use Rattle.run_laws.proofs.Epochs.Run.{run_known}
use Rattle.run_laws.proofs.epoch_laws.ids_are_known.Goals as goal

pub returns : goal.returns
returns c = λ config lines. run_known config lines
