use Rattle.store_laws.proofs.Ending.{close_fine}
use Rattle.store_laws.proofs.laws.closes_come_as_they_may.Goals as goal

pub returns : goal.returns
returns c = λ config n trace few h rests f frame s kept ready inst low close stays. close_fine config n trace few h rests f frame s kept ready inst low close stays
