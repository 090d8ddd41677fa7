use Rattle.store_laws.proofs.Users.Going.{goes_fine}
use Rattle.store_laws.proofs.user_laws.calls_go_on.Goals as goal

pub returns : goal.returns
returns c = λ config n trace f w u h frame asked given k staying. goes_fine config n trace f w u h frame k asked given staying
