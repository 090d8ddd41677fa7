use Rattle.std.proofs.Common.{append_assoc}
use Rattle.wire_writing.proofs.put_replies.put_look_ss.Goals as goal

pub returns : goal.returns
returns c =
    let written = rw (c.in_ok-put_look.ensures, c.in_ok-put_site.ensures) at c.put_stamp.ensures in
    simp append_assoc (simp append_assoc at written)
