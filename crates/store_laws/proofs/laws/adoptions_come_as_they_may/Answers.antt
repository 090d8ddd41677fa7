use Rattle.store_laws.proofs.Adopting.{adopted_sent, may_adopt, store_adopted}
use Rattle.store_laws.proofs.laws.adoptions_come_as_they_may.Goals as goal

pub returns : goal.returns
returns c = record {
  may = λ config n trace few h rests f frame s kept p k complete wants above. may_adopt config n trace few h rests f frame s kept p k complete wants above;
  held = λ config n trace few h rests f frame s kept p k complete wants above stay. store_adopted config n trace few h rests f frame s kept p k complete wants above stay;
  sent = λ config n trace few h rests f frame s kept p k complete wants above. adopted_sent config n trace few h rests f frame s kept p k complete wants above;
}
