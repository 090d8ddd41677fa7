use Rattle.store_laws.proofs.Users.Accepting.{call_fine}
use Rattle.store_laws.proofs.user_laws.accepted_calls_go_on.Goals as goal

pub returns : goal.returns
returns c = λ config n trace f process words u h frame k row low apart staying. call_fine config n trace f process words u h frame k row low apart staying
