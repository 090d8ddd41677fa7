-- Packets in an order that numbers give, and what several outboxes give one after the other.
use Rattle.std.specs.Prelude.{ℕ, suc, ◌+◌, ◌*◌, ◌<◌, true, false, Bool, List, [], ◌∷◌, ◌++◌, Option, None, Some, slice_get}
use Rattle.std.specs.List.{flat_map}
use Rattle.trace_book.specs.declared.record.Record.{Record}
use Rattle.wire_messages.specs.Bodies.{kind_number}
use Rattle.wire_messages.specs.Outboxes.{Outgoing}
use Rattle.wire_messages.specs.declared.packet.Packet.{Packet}
use Rattle.the_run.specs.Steps.{in_order}

abbrev pub with_picked : Option Packet → List Packet → List Packet
with_picked None ps = ps
with_picked (Some p) ps = p ∷ ps

-- the packets at these places
abbrev pub picked : List Packet → List ℕ → List Packet
picked ps [] = []
picked ps (i ∷ is) = with_picked (slice_get ps i) (picked ps is)

-- the packets at these places, or, where no place is named, as they stand
abbrev pub in_place : List Packet → List ℕ → List Packet
in_place ps [] = ps
in_place ps (i ∷ is) = picked ps (i ∷ is)

abbrev pub ArePlaces : ℕ → List ℕ → Type 0
ArePlaces count [] = Unit {0}
ArePlaces count (i ∷ is) = (i < count) × ArePlaces count is

-- where an element comes that goes before these only from the first one on that it stands before
abbrev pub place_before : {A : Type 0} → (A → A → Bool) → A → List A → ℕ
place_before before x [] = 0
place_before before x (y ∷ ys) = elim (before x y) [
  | true ↦ 0
  | false ↦ suc (place_before before x ys)
]

-- the number of the kind and the receiver as one number, where the receiver is at most 16
abbrev pub key : Packet → ℕ
key p = 32 * kind_number p.body + p.to

abbrev pub packets_in : Outgoing → List Packet
packets_in o = o.packets

abbrev pub records_in : Outgoing → List Record
records_in o = o.records

-- what these give one after the other
abbrev pub together : List Outgoing → Outgoing
together parts = record { packets = flat_map packets_in parts; records = flat_map records_in parts }

-- this, and then that
abbrev pub behind : Outgoing → Outgoing → Outgoing
behind first then = record { packets = first.packets ++ then.packets; records = first.records ++ then.records }

abbrev pub sorted_out : Outgoing → Outgoing
sorted_out o = record { packets = in_order o.packets; records = o.records }

-- what is told there, with nothing sent
abbrev pub unsent : Outgoing → Outgoing
unsent out = record { packets = []; records = out.records }
