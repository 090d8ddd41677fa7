use Rattle.packet_fit.proofs.answers.is_granted_answer.Goals as goal

pub returns-in-Open : goal.returns-in-Open
returns-in-Open c = rw c.in-Open.is c.is_grant.ensures

pub returns-in-No : goal.returns-in-No
returns-in-No c = rw c.in-No.is c.is_refusal.ensures
