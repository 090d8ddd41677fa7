use Rattle.std.proofs.Common.{append_assoc}
use Rattle.wire_writing.proofs.put_replies.put_want.Goals as goal

pub returns : goal.returns
returns c =
    let written = rw (c.in_ok-put_stamp.ensures, c.in_ok-put_file.ensures) at c.put_stamp-2.ensures in
    simp append_assoc at written
