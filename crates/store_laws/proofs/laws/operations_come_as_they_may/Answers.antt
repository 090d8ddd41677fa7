use Rattle.store_laws.proofs.Executing.{op_fine}
use Rattle.store_laws.proofs.laws.operations_come_as_they_may.Goals as goal

pub returns : goal.returns
returns c = λ config n trace few h rests more f frame s kept room ready m inst low number o seen fact mends low_told stays. op_fine config n trace few h rests more f frame s kept room ready m inst low number o seen fact mends low_told stays
