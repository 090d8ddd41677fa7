-- What the run's world has of packets, and what is done with it.
use Rattle.std.specs.Prelude.{◌≡◌, ℕ, ◌+◌, ◌==◌, Bool, false, List, [], ◌∷◌, ◌++◌, length, Option, None, Some, is_some, slice_index_or}
use Rattle.std.specs.List.{list_any}
use Rattle.wire_messages.specs.Bodies.{kind_of}
use Rattle.wire_messages.specs.declared.packet.Packet.{Packet}
use Rattle.wire_messages.specs.Packets.{FitsPacket}
use Rattle.packet_queue.specs.of_role_steps.Tables.{row, without_row, total, first_that}
use Rattle.circuits.specs.of_the_run.Worlds.{World, Limit, Numbered, number_of, numbered_from, newest_onto, packet_size, limit_passed}
use Rattle.circuits.specs.Circuits.{circuit_of}
use Rattle.packet_mail.specs.declared.mail.PendingPacket.{PendingPacket}

pub record Post : Type 0 where
  pub sent : List Numbered  -- the newest first
  pub underway : List Numbered  -- neither delivered nor lost, ascending
  pub lost : List ℕ  -- the newest first
  pub packets : ℕ  -- packets sent
  pub bytes : ℕ  -- bytes of packets sent

-- what a world has of packets
abbrev pub post_of_world : World → Post
post_of_world w = record { sent = w.sent; underway = w.underway; lost = w.lost; packets = w.packets; bytes = w.bytes }

abbrev pub no_post : Post
no_post = record { sent = []; underway = []; lost = []; packets = 0; bytes = 0 }

-- packets are sent in order, with the next numbers
abbrev pub posts : List Packet → Post → Post
posts ps m = record m {
  sent = newest_onto (numbered_from (m.packets + 1) ps) m.sent;
  underway = m.underway ++ numbered_from (m.packets + 1) ps;
  packets = m.packets + length ps;
  bytes = m.bytes + total packet_size ps;
}

-- the limit that so many packets more pass, if they pass one
abbrev pub limit_of_packets : List Packet → Post → Option Limit
limit_of_packets ps m = limit_passed (m.packets + length ps) (m.bytes + total packet_size ps) 0

-- the packet isn't under way any more
abbrev pub passes : ℕ → Post → Post
passes k m = record m { underway = without_row number_of k m.underway }

abbrev pub loses : ℕ → Post → Post
loses k m = record m { underway = without_row number_of k m.underway; lost = k ∷ m.lost }

abbrev pub sent_at : ℕ → Post → Option Numbered
sent_at k m = row number_of k m.sent

abbrev pub is_sent : ℕ → Post → Bool
is_sent k m = is_some (sent_at k m)

-- the packet is one that was sent with its number, and one of the format
pub record IsKnown (m : Post) (x : Numbered) : Type 0 where
  pub sent : sent_at x.number m ≡ Some x
  pub fits : FitsPacket x.packet

abbrev pub is_lost : ℕ → Post → Bool
is_lost k m = list_any (λ j. j == k) m.lost

abbrev pub is_underway : ℕ → Post → Bool
is_underway k m = is_some (row number_of k m.underway)

-- by a table of the circuits that are up, the packet can come
abbrev pub can_come : List Bool → Numbered → Bool
can_come up x = slice_index_or up (circuit_of x.packet.from x.packet.to) false

abbrev pub number_in : Option Numbered → Option ℕ
number_in None = None
number_in (Some x) = Some x.number

abbrev pub packet_in : Option Numbered → Option Packet
packet_in None = None
packet_in (Some x) = Some x.packet

-- the lowest-numbered packet under way whose circuit is up
abbrev pub next_number : List Bool → Post → Option ℕ
next_number up m = number_in (first_that (can_come up) m.underway)

abbrev pub sender_in : Option Numbered → Option ℕ
sender_in None = None
sender_in (Some x) = Some x.packet.from

abbrev pub receiver_in : Option Numbered → Option ℕ
receiver_in None = None
receiver_in (Some x) = Some x.packet.to

-- what the schedule's listing tells of a packet
abbrev pub pending_of : Numbered → PendingPacket
pending_of x = record { number = x.number; from = x.packet.from; to = x.packet.to; kind = kind_of x.packet.body }
