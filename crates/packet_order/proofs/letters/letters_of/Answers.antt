use Rattle.std.proofs.Common.{map}
use Rattle.wire_messages.specs.Packets.{packet_bytes}
use Rattle.packet_order.proofs.Spelled.{letters_next}
use Rattle.packet_order.proofs.letters.letters_of.Goals as goal

pub loop-packet-preserved : goal.loop-packet-preserved
loop-packet-preserved c = letters_next c.args.packets.now c.loop-packet.made c.push.new.self (map packet_bytes c.args.packets.now) c.loop-packet.packet-index c.packet-item.result c.in_ok-letter_of.field-0 c.loop-packet-test.true c.packet-item.is c.in_ok-letter_of.ensures.letter c.in-Ok.ensures.ok c.loop-packet.invariant
