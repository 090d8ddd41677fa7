use Rattle.store_laws.proofs.Users.OnHeld.{held_fine}
use Rattle.store_laws.proofs.user_laws.held_reads_are_taken.Goals as goal

pub returns : goal.returns
returns c = λ config n trace f u serial number len h frame k acts reads l staying. held_fine config n trace f u serial number len h frame k acts reads l staying
