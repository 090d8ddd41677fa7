use Rattle.store_laws.proofs.MakingHere.{open_fine}
use Rattle.store_laws.proofs.laws.opens_are_begun.Goals as goal

pub returns : goal.returns
returns c = λ config n trace few h rests f frame s held inst file m set kind base vector parents k stays. open_fine config n trace few h rests f frame s held inst file m set kind base vector parents k stays
