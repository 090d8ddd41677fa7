use Rattle.tree_laws.proofs.Carried.{packet_stays}
use Rattle.tree_laws.proofs.laws.packet_facts_stay.Goals as goal

pub returns : goal.returns
returns c = λ config older n x h may stay p k. packet_stays config n x older h may stay p k
