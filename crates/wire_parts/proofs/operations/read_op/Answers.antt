use Rattle.wire_parts.proofs.operations.read_op.Goals as goal

pub returns-in-2 : goal.returns-in-2
returns-in-2 c = rw (c.in_ok-number.ensures.read, c.in-2.is) c.read_find.ensures
