use Rattle.packet_laws.proofs.Values.Scripts.{scripts_fit}
use Rattle.packet_laws.proofs.packet_value_laws.calls_want_what_fits.Goals as goal

pub returns : goal.returns
returns c = λ config. scripts_fit config
