-- What a reader of bytes answers.
use Rattle.std.specs.Prelude.{◌≡◌, ℕ, Result, Ok, Err}
use Rattle.field_codec.specs.declared.faults.FieldFault.{FieldFault}
use Rattle.field_codec.specs.declared.faults.FieldFault.TheVariants.{Short, Range}
use Rattle.field_codec.specs.declared.faults.ReadError.{ReadError}
use Rattle.field_codec.specs.declared.faults.ReadError.TheVariants as reading
use Rattle.wire_messages.specs.declared.packet.Packet.{Packet}
use Rattle.wire_messages.specs.Packets.{Header}
use Rattle.wire_reading.specs.declared.decoder.Heading.{Heading}
use Rattle.wire_reading.specs.declared.decoder.NotAPacket.{NotAPacket}
use Rattle.wire_reading.specs.declared.decoder.NotAPacket.TheVariants.{At, NoMemory}

-- the place that a fault names
abbrev pub place_of : FieldFault → ℕ
place_of (Short at) = at
place_of (Range at) = at

-- why there is no packet, by what kept it from being read
abbrev pub refusal_of : ReadError → NotAPacket
refusal_of (reading.Field fault) = At (place_of fault)
refusal_of reading.NoMemory = NoMemory

-- what a decoder gives, unless memory runs out: the packet that was read, or the place of the first fault
abbrev pub Decodes : Result Packet FieldFault → Result Packet NotAPacket → Type 0
Decodes (Ok p) (Ok q) = q ≡ p
Decodes (Ok p) (Err (At at)) = ⊥
Decodes (Err fault) (Ok q) = ⊥
Decodes (Err fault) (Err (At at)) = at ≡ place_of fault
Decodes _ (Err NoMemory) = Unit {0}

-- a header that a reader has read
abbrev pub seen_header : Heading → Header
seen_header h = (1, (h.kind, (h.from, (h.from_boot, (h.to, (h.to_boot, h.epoch))))))
