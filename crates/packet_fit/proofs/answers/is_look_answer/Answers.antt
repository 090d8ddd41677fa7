use Rattle.std.proofs.Common.{refl}
use Rattle.packet_fit.proofs.answers.is_look_answer.Goals as goal

pub returns-in-Found : goal.returns-in-Found
returns-in-Found c = rw c.in-Found.is c.is_found.ensures

pub returns-in-Content : goal.returns-in-Content
returns-in-Content c = rw c.in-Content.is c.is_content.ensures

pub returns-in-Stat : goal.returns-in-Stat
returns-in-Stat c = rw c.in-Stat.is c.is_stat.ensures

pub returns-in-Moved : goal.returns-in-Moved
returns-in-Moved c = rw c.in-Moved.is (λ _. tt, λ _. refl)

pub returns-in-No : goal.returns-in-No
returns-in-No c = rw c.in-No.is c.is_refusal.ensures
