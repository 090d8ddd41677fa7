use Rattle.store_laws.proofs.Staying.{store_stays}
use Rattle.store_laws.proofs.laws.store_facts_stay.Goals as goal

pub returns : goal.returns
returns c = λ config older n x few h may stay f s away unadopted k. store_stays config n x older few h may stay f s away unadopted k
