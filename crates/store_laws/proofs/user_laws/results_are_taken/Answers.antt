use Rattle.store_laws.proofs.Users.OnOp.{op_done_fine}
use Rattle.store_laws.proofs.user_laws.results_are_taken.Goals as goal

pub returns : goal.returns
returns c = λ config n trace f u serial number r h frame k acts reads l staying. op_done_fine config n trace f u serial number r h frame k acts reads l staying
