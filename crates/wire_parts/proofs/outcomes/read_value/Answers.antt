use Rattle.wire_parts.proofs.outcomes.read_value.Goals as goal

pub returns-in-1 : goal.returns-in-1
returns-in-1 c = rw (c.in_ok-number.ensures.read, c.in-1.is) c.read_given.ensures
