use Rattle.std.proofs.Common.{append_assoc}
use Rattle.wire_writing.proofs.put_requests.put_read_held.Goals as goal

pub returns : goal.returns
returns c =
    let written = rw (c.in_ok-put_u32-2.ensures.ok, c.in_ok-put_u32.ensures.ok) at c.put_held.ensures in
    simp append_assoc at written
