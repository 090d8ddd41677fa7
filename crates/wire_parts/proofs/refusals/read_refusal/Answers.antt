use Rattle.wire_parts.proofs.refusals.read_refusal.Goals as goal

pub returns-in-2 : goal.returns-in-2
returns-in-2 c = rw (c.in_ok-number.ensures.read, c.in-2.is) c.read_absent.ensures
