use Rattle.rest_laws.proofs.Roles.{roles_do}
use Rattle.rest_laws.proofs.laws.roles_do_as_they_may.Goals as goal

pub returns : goal.returns
returns c = λ config few. roles_do config few
