use Rattle.std.proofs.Common.{refl}
use Rattle.wire_parts.proofs.parts.read_kind.Goals as goal

pub returns-in-2 : goal.returns-in-2
returns-in-2 c = rw (c.in_ok-get_u8.ensures.read, c.in-2.is) refl
