use Rattle.store_laws.proofs.Users.Leaving.{users_leave_fine}
use Rattle.store_laws.proofs.user_laws.users_leave_rightly.Goals as goal

pub returns : goal.returns
returns c = λ config n older f u k. users_leave_fine config n older f u k
