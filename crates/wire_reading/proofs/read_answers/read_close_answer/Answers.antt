use Rattle.wire_reading.proofs.read_answers.read_close_answer.Goals as goal

pub returns-in-1 : goal.returns-in-1
returns-in-1 c = rw (c.in_ok-number.ensures.read, c.in-1.is) c.read_closed.ensures
