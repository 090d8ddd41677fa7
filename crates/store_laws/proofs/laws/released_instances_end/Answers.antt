use Rattle.store_laws.proofs.Closes.{closed_ok_fine}
use Rattle.store_laws.proofs.laws.released_instances_end.Goals as goal

pub returns : goal.returns
returns c = λ config n trace rests f s kept inst low released. closed_ok_fine config n trace rests f s kept inst low released
