use Rattle.std.proofs.Common.{append_assoc}
use Rattle.wire_writing.proofs.put_answers.put_copy.Goals as goal

pub returns : goal.returns
returns c =
    let written = rw (c.in_ok-put_u32.ensures.ok, c.in_ok-put_set.ensures, c.in_ok-put_kind.ensures, c.in_ok-put_u16.ensures.ok) at c.put_version.ensures in
    simp append_assoc at written
