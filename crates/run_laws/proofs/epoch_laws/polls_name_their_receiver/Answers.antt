use Rattle.run_laws.proofs.Epochs.Run.{run_names_receiver}
use Rattle.run_laws.proofs.epoch_laws.polls_name_their_receiver.Goals as goal

pub returns : goal.returns
returns c = λ config lines. run_names_receiver config lines
