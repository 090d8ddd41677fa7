use Rattle.std.proofs.Common.{length, ap, ◌<◌, arith}
use Rattle.std.proofs.lemmas.List.{get_or_read}
use Rattle.packet_queue.proofs.Threads.{add_keeps, lowest_add, take_small}
use Rattle.packet_queue.proofs.queue.PacketQueue.add.Goals as goal

pub invariant_of-self : goal.invariant_of-self
invariant_of-self c =
    let i = c.self.inside in
    let small : i.count < 262145 = take_small i.count i.circuits.items c.self.invariant.0.circuits_room (rw (ap (λ q. length q.circuits) c.self.view_is) c.requires) in (
      rw (c.link.ensures, c.begin.ensures, get_or_read i.last.items _ _ (omega arith) c.index.ensures 0)
          (add_keeps i.count c.args.circuit i.circuits.items i.underway.items i.after.items i.first.items i.last.items small (omega arith) c.self.invariant.0),
      lowest_add i.count i.least i.underway.items (rw c.self.invariant.0.underway_room small) c.self.invariant.1,
    )
