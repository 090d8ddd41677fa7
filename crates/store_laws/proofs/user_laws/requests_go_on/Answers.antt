use Rattle.store_laws.proofs.Users.Requesting.{requests_fine}
use Rattle.store_laws.proofs.user_laws.requests_go_on.Goals as goal

pub returns : goal.returns
returns c = λ config n trace f w u h frame rests k r. requests_fine config n trace f w u h frame rests k r
