use Rattle.packet_laws.proofs.Values.Shown.{shown_fit}
use Rattle.packet_laws.proofs.packet_value_laws.shown_names_are_components.Goals as goal

pub returns : goal.returns
returns c = λ ds h. shown_fit ds h
