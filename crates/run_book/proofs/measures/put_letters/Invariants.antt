use Rattle.std.proofs.Common.{◌≡◌, ◌++◌, drop, map}
use Rattle.std.specs.List.{AllByRecursion}
use Rattle.wire_messages.specs.declared.packet.Packet.{Packet}
use Rattle.wire_messages.specs.Packets.{FitsPacket, packet_bytes}
use Rattle.packet_order.specs.Orders.{together}
use Rattle.run_book.proofs.measures.put_letters.Given as goal

abbrev pub invariant-loop-part : goal.invariant-loop-part
invariant-loop-part l = record {
  letters : l.letters ++ map packet_bytes (together (drop l.part-index l.parts)).packets ≡ map packet_bytes (together l.parts).packets;
  fits : AllByRecursion (λ (p : Packet). FitsPacket p) (together (drop l.part-index l.parts)).packets → AllByRecursion (λ (p : Packet). FitsPacket p) (together l.parts).packets;
}
