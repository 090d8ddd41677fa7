use Rattle.std.proofs.Common.{◌≡◌, ◌<◌, length, arith}
use Rattle.packet_mail.proofs.Calls.{sent_yes}
use Rattle.packet_mail.proofs.Listing.{listing_yes, listing_no}
use Rattle.packet_mail.proofs.mail.Mail.pending.Goals as goal
use Rattle.packet_mail.proofs.mail.Mail.pending.Goals.{then-is_underway+in_ok-listed+in_ok-push, else-is_underway}

pub listed-requires : goal.listed-requires
listed-requires c = let i = c.self.inside in let n = c.len-number-end.ensures in sent_yes i.queue i.ends.items i.log i.lost.items c.args.self.now c.self.invariant.0 c.self.view_is c.loop-number.number (omega arith) (omega arith)

pub loop-number-preserved : goal.loop-number-preserved
loop-number-preserved c =
    let i = c.self.inside in
    let n = c.len-number-end.ensures in
    let l : c.loop-number.number < length i.queue.circuits = omega arith in
    let s : 0 < c.loop-number.number = omega arith in
    elim c.if-is_underway.branch [
      | then-is_underway+in_ok-listed+in_ok-push w ↦ rw w.pending-is (listing_yes i.queue i.ends.items i.log i.lost.items c.args.self.now c.self.invariant.0 c.self.view_is c.loop-number.number c.is_underway.result w.in_ok-listed.field-0 c.loop-number.pending _ s l c.is_underway.ensures w.if-is_underway.true w.in_ok-listed.ensures w.in_ok-push.ensures.ok c.loop-number.invariant)
      | else-is_underway w ↦ rw w.pending-is (listing_no i.ends.items i.log i.queue.underway c.loop-number.number c.is_underway.result c.loop-number.pending (let b : length i.queue.underway ≡ length i.queue.circuits = c.self.invariant.0.both in omega arith) c.is_underway.ensures w.if-is_underway.false c.loop-number.invariant)
    ]
