use Rattle.packet_laws.proofs.Fitting.FormingRun.{run_fit_in_part, run_next_fit}
use Rattle.packet_laws.proofs.packet_fit_laws.packets_fit_in_part.Goals as goal

pub returns : goal.returns
returns c = λ config lines. (run_fit_in_part config lines, run_next_fit config lines)
