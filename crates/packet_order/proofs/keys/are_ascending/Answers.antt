use Rattle.packet_order.proofs.Ascending.{ascend_next}
use Rattle.packet_order.proofs.keys.are_ascending.Goals as goal

pub loop-packet-preserved : goal.loop-packet-preserved
loop-packet-preserved c = ascend_next c.args.packets.now c.loop-packet.packet-index c.loop-packet.last c.key_of-key.result c.packet-item.result c.loop-packet-test.true c.packet-item.is c.key_of-key.ensures.receiver c.key_of-key.ensures.key c.if-key-last.false c.loop-packet.invariant
