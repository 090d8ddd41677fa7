use Rattle.std.proofs.Common.{refl}
use Rattle.packet_fit.proofs.answers.is_made_answer.Goals as goal

pub returns-in-None : goal.returns-in-None
returns-in-None c = rw c.in-None.is (λ _. tt, λ _. refl)

pub returns-in-Some : goal.returns-in-Some
returns-in-Some c = rw c.in-Some.is c.is_made_version.ensures
