use Rattle.packet_order.proofs.Spelled.{order_next, place_few}
use Rattle.packet_order.proofs.sorting.order_of.Goals as goal

pub insert-requires : goal.insert-requires
insert-requires c = place_few c.args.packets.now c.loop-next.places c.as_slice-in-loop-next.result.now c.place_for-at.result c.loop-next.next c.as_slice-in-loop-next.ensures c.place_for-at.ensures c.loop-next-test.true c.loop-next.invariant.1

pub loop-next-preserved : goal.loop-next-preserved
loop-next-preserved c = order_next c.args.packets.now c.loop-next.places c.as_slice-in-loop-next.result.now c.insert.new.self c.place_for-at.result c.loop-next.next c.as_slice-in-loop-next.ensures c.place_for-at.ensures c.loop-next-test.true c.in-Ok.ensures.ok c.loop-next.invariant
