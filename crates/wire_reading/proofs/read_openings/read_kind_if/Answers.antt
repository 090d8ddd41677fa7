use Rattle.wire_reading.proofs.read_openings.read_kind_if.Goals as goal

pub returns-then-wanted : goal.returns-then-wanted
returns-then-wanted c = rw c.if-wanted.true c.u8_in.ensures.read

pub returns-else-wanted : goal.returns-else-wanted
returns-else-wanted c = rw c.if-wanted.false c.u8_in-else-wanted.ensures.read
