use Rattle.packet_laws.proofs.Fitting.CountsRun.{run_counts_low}
use Rattle.packet_laws.proofs.packet_fit_laws.counts_stay_low.Goals as goal

pub returns : goal.returns
returns c = λ config lines. run_counts_low config lines
