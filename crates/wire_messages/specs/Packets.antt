-- Packets as bytes: a header of 25 bytes, of which the last four are the length of the body, and the body.
use Rattle.std.specs.Prelude.{◌≡◌, ℕ, ◌<◌, ◌^◌, List, [], ◌++◌, length, Result, Ok, Err}
use Rattle.wire_fields.specs.of_locus_ids.declared.ids.EpochId.{EpochId}
use Rattle.wire_fields.specs.of_field_codec.Codec.{Codec, u32, u8_in, pair, followed_by, ◌>>=◌}
use Rattle.wire_fields.specs.of_field_codec.Shapes.{framed}
use Rattle.wire_fields.specs.Parts.{sites, numbers, epochs}
use Rattle.wire_messages.specs.declared.body.Body.{Body}
use Rattle.wire_messages.specs.declared.packet.Packet.{Packet}
use Rattle.wire_messages.specs.Bodies.{kind_number, body_bytes, FitsBody, bodies}

-- the version, the kind, the sender and its boot, the receiver and its boot, and the epoch
abbrev pub Header : Type 0
Header = ℕ × (ℕ × (ℕ × (ℕ × (ℕ × (ℕ × EpochId)))))

abbrev pub headers : Codec Header
headers = pair (u8_in 1 1) (pair (u8_in 1 26) (pair sites (pair numbers (pair sites (pair numbers epochs)))))

abbrev pub header_of : Packet → Header
header_of p = (1, (kind_number p.body, (p.from, (p.from_boot, (p.to, (p.to_boot, p.epoch))))))

abbrev pub packet_of : Header → Body → Packet
packet_of h body = record { from = h.1.1.0; from_boot = h.1.1.1.0; to = h.1.1.1.1.0; to_boot = h.1.1.1.1.1.0; epoch = h.1.1.1.1.1.1; body = body }

-- the bytes of a packet
abbrev pub packet_bytes : Packet → List ℕ
packet_bytes p = headers.spell (header_of p) ++ (u32.spell (length (body_bytes p.body)) ++ body_bytes p.body)

-- each field of the packet is one of the grammar
pub record FitsPacket (p : Packet) : Type 0 where
  pub from : sites.Fits p.from
  pub from_boot : numbers.Fits p.from_boot
  pub to : sites.Fits p.to
  pub to_boot : numbers.Fits p.to_boot
  pub epoch : epochs.Fits p.epoch
  pub body : FitsBody p.body
  pub short : length (body_bytes p.body) < 2 ^ 32

-- the bytes are those of the packet, which is one of the grammar
abbrev pub IsPacket : List ℕ → Packet → Type 0
IsPacket bytes p = (bytes ≡ packet_bytes p) × FitsPacket p

-- a header, and a body of its kind
abbrev pub parts : Codec (Header × Body)
parts = followed_by headers (λ h. framed (bodies h.1.0))

-- packets, read from the left
abbrev pub packets : Codec Packet
packets = record {
  Fits = FitsPacket;
  spell = packet_bytes;
  read = λ u. parts.read u >>= λ r. Ok (packet_of r.0.0 r.0.1, r.1);
}

-- a packet whose bytes begin with those of a packet is that packet
abbrev pub BeginsNoOther : Type 0
BeginsNoOther = (p q : Packet) (more : List ℕ) → FitsPacket p → FitsPacket q → packet_bytes q ≡ packet_bytes p ++ more → (q ≡ p) × (more ≡ [])
