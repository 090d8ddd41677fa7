use Rattle.store_laws.proofs.Users.OnClose.{close_done_fine}
use Rattle.store_laws.proofs.user_laws.closes_are_taken.Goals as goal

pub returns : goal.returns
returns c = λ config n trace f u serial a h frame k closes l staying. close_done_fine config n trace f u serial a h frame k closes l staying
