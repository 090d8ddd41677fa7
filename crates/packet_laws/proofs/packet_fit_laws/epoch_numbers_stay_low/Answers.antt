use Rattle.packet_laws.proofs.Fitting.Epochs.{run_epochs_low, run_next_epochs}
use Rattle.packet_laws.proofs.packet_fit_laws.epoch_numbers_stay_low.Goals as goal

pub returns : goal.returns
returns c = λ config lines. (run_epochs_low config lines, run_next_epochs config lines)
