-- What a decoder gives has the bytes that were read, and a packet with those bytes is given.
use Rattle.std.proofs.Common.{◌≡◌, ℕ, ◌⊎◌, inl, inr, List, Result, Ok, Err, refl, sym, ap, subst, ◌∙◌}
use Rattle.std.specs.Result.{IfOk}
use Rattle.field_codec.specs.declared.faults.FieldFault.{FieldFault}
use Rattle.field_codec.specs.Codec.{AreBytes, whole}
use Rattle.field_codec.proofs.Laws.{whole_takes, whole_again}
use Rattle.wire_messages.specs.declared.packet.Packet.{Packet}
use Rattle.wire_messages.specs.Packets.{IsPacket, packets}
use Rattle.wire_messages.proofs.PacketLaws.{packets_laws}
use Rattle.wire_reading.specs.declared.decoder.NotAPacket.{NotAPacket}
use Rattle.wire_reading.specs.declared.decoder.NotAPacket.TheVariants.{At, NoMemory}
use Rattle.wire_reading.specs.Decoding.{Decodes}

-- what was decoded has these bytes
pub found : (bytes : List ℕ) (r : Result Packet NotAPacket) → AreBytes bytes → Decodes (whole packets bytes) r → IfOk r (IsPacket bytes)
found bytes (Ok p) h given = by_read (whole packets bytes) refl given where
  by_read : (o : Result Packet FieldFault) → whole packets bytes ≡ o → Decodes o (Ok p) → IsPacket bytes p
  by_read (Ok q) e same = let k = whole_takes packets_laws bytes q h e in subst (λ (x : Packet). IsPacket bytes x) (sym same) (k.1, k.0)
  by_read (Err d) e none = absurd none
found bytes (Err e) h given = tt

-- a packet that has these bytes was decoded, unless memory ran out
pub only : (bytes : List ℕ) (r : Result Packet NotAPacket) → Decodes (whole packets bytes) r → (p : Packet) → IsPacket bytes p → (r ≡ Ok p) ⊎ (r ≡ Err NoMemory)
only bytes r given p is = answered r (subst (λ (o : Result Packet FieldFault). Decodes o r) (ap (whole packets) is.0 ∙ whole_again packets_laws p is.1) given) where
  answered : (r : Result Packet NotAPacket) → Decodes (Ok p) r → (r ≡ Ok p) ⊎ (r ≡ Err NoMemory)
  answered (Ok q) same = inl (ap (λ (x : Packet). Ok x) same)
  answered (Err (At at)) none = absurd none
  answered (Err NoMemory) given = inr refl
