use Rattle.std.proofs.Common.{◌≡◌, ◌++◌, map, drop}
use Rattle.wire_messages.specs.Packets.{packet_bytes}
use Rattle.packet_order.proofs.letters.letters_of.Given as goal

abbrev pub invariant-loop-packet : goal.invariant-loop-packet
invariant-loop-packet l = l.made ++ map packet_bytes (drop l.packet-index l.packets) ≡ map packet_bytes l.packets
