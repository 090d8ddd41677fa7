use Rattle.wire_reading.proofs.read_openings.read_mode_number.Goals as goal

pub returns-then-new : goal.returns-then-new
returns-then-new c = rw c.if-new.true c.u8_in.ensures.read

pub returns-else-new : goal.returns-else-new
returns-else-new c = rw c.if-new.false c.u8_in-else-new.ensures.read
