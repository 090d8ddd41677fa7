use Rattle.store_laws.proofs.Users.OnLook.{look_done_fine}
use Rattle.store_laws.proofs.user_laws.looks_are_taken.Goals as goal

pub returns : goal.returns
returns c = λ config n trace f u number request times a h frame k steady looks l staying. look_done_fine config n trace f u h frame k steady looks number request times a l staying
