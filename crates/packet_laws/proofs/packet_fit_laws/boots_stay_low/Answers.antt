use Rattle.run_laws.proofs.Boots.{run_boots_low, run_next_low}
use Rattle.packet_laws.proofs.packet_fit_laws.boots_stay_low.Goals as goal

pub returns : goal.returns
returns c = λ config lines. (run_boots_low config lines, run_next_low config lines)
