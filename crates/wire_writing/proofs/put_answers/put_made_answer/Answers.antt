use Rattle.wire_writing.proofs.put_answers.put_made_answer.Goals as goal

pub returns-in-None : goal.returns-in-None
returns-in-None c = rw c.in-None.is c.put_u8.ensures.ok

pub returns-in-Some : goal.returns-in-Some
returns-in-Some c = rw c.in-Some.is c.put_version_made.ensures
