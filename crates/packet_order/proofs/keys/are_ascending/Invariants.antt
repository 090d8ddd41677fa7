use Rattle.packet_order.proofs.Ascending.{AscendTo}
use Rattle.packet_order.proofs.keys.are_ascending.Given as goal

abbrev pub invariant-loop-packet : goal.invariant-loop-packet
invariant-loop-packet l = AscendTo l.packets l.packet-index l.last
