use Rattle.wire_writing.proofs.put_answers.put_granted_fields.Goals as goal

pub put_refusal-requires : goal.put_refusal-requires
put_refusal-requires c = rw c.in-No.is at c.requires

pub returns-in-Open : goal.returns-in-Open
returns-in-Open c = rw c.in-Open.is c.put_grant.ensures

pub returns-in-No : goal.returns-in-No
returns-in-No c = rw c.in-No.is c.put_refusal.ensures
