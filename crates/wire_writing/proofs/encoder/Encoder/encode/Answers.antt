use Rattle.wire_messages.proofs.PacketLaws.{added}
use Rattle.wire_writing.proofs.encoder.Encoder.encode.Goals as goal

pub returns-clause-ok : goal.returns-clause-ok
returns-clause-ok c =
    added c.append_both.result c.args.out.now c.append_both.new.out c.heading-front.result c.put_body.new.out c.len.result c.args.p.now
    (rw c.clear.ensures at c.in_ok-put_body.ensures) c.len.ensures c.heading-front.ensures (rw c.as_slice.ensures at c.append_both.ensures.ok)
