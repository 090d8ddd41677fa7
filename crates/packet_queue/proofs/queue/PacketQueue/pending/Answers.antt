use Rattle.std.proofs.Common.{◌≡◌, ◌<◌, length, arith}
use Rattle.packet_queue.proofs.Threads.{pending_yes, pending_no}
use Rattle.packet_queue.proofs.queue.PacketQueue.pending.Goals as goal
use Rattle.packet_queue.proofs.queue.PacketQueue.pending.Goals.{then-index+in_ok-push, else-index}

pub loop-k-preserved : goal.loop-k-preserved
loop-k-preserved c =
    let ws = c.self.inside.underway.items in
    let l : c.loop-k.k < length ws = (let r : length ws ≡ 262145 = c.self.invariant.0.underway_room in let m = c.self.invariant.0.count in omega arith) in
    elim c.if-index.branch [
      | then-index+in_ok-push w ↦ let e = pending_yes c.loop-k.k ws c.index.result.now l c.index.ensures w.if-index.true in cc (e, w.made-is, w.in_ok-push.ensures.items, c.loop-k.invariant)
      | else-index w ↦ let e = pending_no c.loop-k.k ws c.index.result.now l c.index.ensures w.if-index.false in cc (e, w.made-is, c.loop-k.invariant)
    ]
