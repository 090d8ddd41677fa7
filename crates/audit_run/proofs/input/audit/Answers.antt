use Rattle.audit_run.proofs.Ending.{memory_ends}
use Rattle.audit_run.proofs.input.audit.Goals as goal

pub hear_lines-requires : goal.hear_lines-requires
hear_lines-requires g c = record { unread = c.in-Ok.ensures }

pub returns-in-Ok-clause-ends : goal.returns-in-Ok-clause-ends
returns-in-Ok-clause-ends g c = c.hear_lines.ensures.ends

pub returns-in-Ok-clause-fault : goal.returns-in-Ok-clause-fault
returns-in-Ok-clause-fault g c = c.hear_lines.ensures.fault

pub returns-in-Err-clause-ends : goal.returns-in-Err-clause-ends
returns-in-Err-clause-ends g c = memory_ends _ _

pub returns-in-Err-clause-fault : goal.returns-in-Err-clause-fault
returns-in-Err-clause-fault g c = λ e. absurd (cc)
