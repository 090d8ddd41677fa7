use Rattle.std.proofs.Common.{append_assoc}
use Rattle.wire_writing.proofs.put_answers.put_grant.Goals as goal

pub returns : goal.returns
returns c =
    let written = rw (c.in_ok-put_stamp.ensures, c.in_ok-put_u32.ensures.ok, c.in_ok-put_u16.ensures.ok, c.in_ok-put_site.ensures) at c.put_vector.ensures in
    simp append_assoc at written
