use Rattle.packet_laws.proofs.Values.Whole.{body_fits}
use Rattle.packet_laws.proofs.packet_value_laws.bodies_fit_with_their_counts.Goals as goal

pub returns : goal.returns
returns c = λ b none fits counted. body_fits b none fits counted
