use Rattle.audit_run.proofs.input.hear_lines.Goals as goal

pub hear_each-requires-clause-unread : goal.hear_each-requires-clause-unread
hear_each-requires-clause-unread g c = c.requires.unread

pub hear_each-requires-clause-fresh : goal.hear_each-requires-clause-fresh
hear_each-requires-clause-fresh g c = c.new-hearing.ensures

pub returns-clause-ends : goal.returns-clause-ends
returns-clause-ends g c = c.hear_each.ensures.ends

pub returns-clause-fault : goal.returns-clause-fault
returns-clause-fault g c = c.hear_each.ensures.fault
