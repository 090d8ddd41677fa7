use Rattle.store_laws.proofs.Users.OnOpen.{open_done_fine}
use Rattle.store_laws.proofs.user_laws.opens_are_taken.Goals as goal

pub returns : goal.returns
returns c = λ config n trace f u kept serial a h frame k rests keeps l staying. open_done_fine config n trace f u kept serial a h frame k rests keeps l staying
