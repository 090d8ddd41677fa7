use Rattle.std.proofs.Common.{◌≡◌, ◌++◌, drop, map}
use Rattle.std.specs.List.{AllByRecursion}
use Rattle.wire_messages.specs.declared.packet.Packet.{Packet}
use Rattle.wire_messages.specs.Packets.{FitsPacket, packet_bytes}
use Rattle.run_book.proofs.measures.add_letters.Given as goal

abbrev pub invariant-loop-i : goal.invariant-loop-i
invariant-loop-i l = record {
  letters : l.letters ++ map packet_bytes (drop l.i l.part.packets) ≡ l.initial.letters ++ map packet_bytes l.part.packets;
  fits : AllByRecursion (λ (p : Packet). FitsPacket p) (drop l.i l.part.packets) → AllByRecursion (λ (p : Packet). FitsPacket p) l.part.packets;
}
