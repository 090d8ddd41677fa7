use Rattle.store_laws.proofs.Users.Views.{users_stay}
use Rattle.store_laws.proofs.user_laws.users_stay.Goals as goal

pub returns : goal.returns
returns c = λ config n x older f u h may stay frame away calm k. users_stay config n x older f u h may stay frame away calm k
