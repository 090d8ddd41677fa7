use Rattle.store_laws.proofs.Users.Booting.{outside_stays}
use Rattle.store_laws.proofs.user_laws.counts_stay_outside.Goals as goal

pub returns : goal.returns
returns c = λ config n x older me boot u fresh away calm k. outside_stays config n x older me boot u fresh away calm k
