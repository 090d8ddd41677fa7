use Rattle.std.proofs.Common.{refl}
use Rattle.packet_fit.proofs.answers.is_close_answer.Goals as goal

pub returns-in-Nothing : goal.returns-in-Nothing
returns-in-Nothing c = rw c.in-Nothing.is (λ _. tt, λ _. refl)

pub returns-in-Made : goal.returns-in-Made
returns-in-Made c = rw c.in-Made.is c.is_stamp.ensures

pub returns-in-No : goal.returns-in-No
returns-in-No c = rw c.in-No.is c.is_refusal.ensures
