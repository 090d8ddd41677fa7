-- What the mail keeps: the bytes of all packets one behind the other, and where each ends. Number 0 stands for no packet.
use Rattle.std.specs.Prelude.{◌≡◌, ℕ, zero, suc, ◌-◌, ◌<◌, ◌≤◌, ◌==◌, Bool, false, List, [], ◌∷◌, ◌++◌, map, reverse, length, slice_index, slice_index_or, slice_range, Result, Ok, Err}
use Rattle.std.specs.List.{list_any, concat}
use Rattle.field_codec.specs.declared.faults.FieldFault.{FieldFault}
use Rattle.field_codec.specs.Codec.{whole}
use Rattle.wire_messages.specs.declared.body.Body.TheVariants as body
use Rattle.wire_messages.specs.declared.packet.Packet.{Packet}
use Rattle.wire_messages.specs.Packets.{packets, IsPacket}
use Rattle.circuits.specs.of_the_run.Worlds.{Numbered, no_epoch}
use Rattle.circuits.specs.Circuits.{circuit_of}
use Rattle.packet_queue.specs.Queues.{Queues, numbers_of}
use Rattle.packet_mail.specs.Posts.{Post, posts}

-- stands where no packet was read
abbrev pub no_packet : Packet
no_packet = record { from = 1; from_boot = 1; to = 1; to_boot = 1; epoch = no_epoch; body = body.Poll }

abbrev pub packet_or_none : Result Packet FieldFault → Packet
packet_or_none (Ok p) = p
packet_or_none (Err e) = no_packet

-- the packet that the bytes are
unfoldable pub packet_of_bytes : List ℕ → Packet
packet_of_bytes bytes = packet_or_none (whole packets bytes)

-- the bytes of the packet with this number
abbrev pub letter : List ℕ → List ℕ → ℕ → List ℕ
letter ends log zero = []
letter ends log (suc n) = slice_range log (slice_index ends n) (slice_index ends (suc n))

abbrev pub numbered : List ℕ → List ℕ → ℕ → Numbered
numbered ends log k = record { number = k; packet = packet_of_bytes (letter ends log k) }

-- the packets up to this number, the newest first
abbrev pub sent_to : List ℕ → List ℕ → ℕ → List Numbered
sent_to ends log zero = []
sent_to ends log (suc n) = numbered ends log (suc n) ∷ sent_to ends log n

abbrev pub post_of : Queues → List ℕ → List ℕ → List ℕ → Post
post_of q ends log lost = record {
  sent = sent_to ends log (length q.circuits - 1);
  underway = map (numbered ends log) (numbers_of 0 q.underway);
  lost = reverse lost;
  packets = length q.circuits - 1;
  bytes = length log;
}

-- the bytes of a packet of this circuit
pub record IsLetter (circuit : ℕ) (bytes : List ℕ) : Type 0 where
  pub packet : Packet
  pub is_packet : IsPacket bytes packet
  pub on : circuit ≡ circuit_of packet.from packet.to

pub record InOrder (q : Queues) (ends log : List ℕ) : Type 0 where
  pub some : 0 < length q.circuits
  pub count : length q.circuits ≤ 262145
  pub both : length q.underway ≡ length q.circuits
  pub none : slice_index_or q.underway 0 false ≡ false
  pub room : length ends ≡ 262145
  pub size : length log ≤ 134217728
  pub end : slice_index ends (length q.circuits - 1) ≡ length log
  pub within : (k : ℕ) → k < length q.circuits → slice_index ends k ≤ length log
  pub rising : (k : ℕ) → suc k < length q.circuits → slice_index ends k ≤ slice_index ends (suc k)
  pub letters : (k : ℕ) → suc k < length q.circuits → IsLetter (slice_index q.circuits (suc k)) (letter ends log (suc k))

-- a table that tells of each number whether its packet is lost
pub record TellsLost (marks : List Bool) (lost : List ℕ) : Type 0 where
  pub room : length marks ≡ 262145
  pub each : (k : ℕ) → k < 262145 → slice_index_or marks k false ≡ list_any (λ j. j == k) lost

-- the bytes are those of a packet of the format
abbrev pub IsSpelled : List ℕ → Type 0
IsSpelled bytes = IsPacket bytes (packet_of_bytes bytes)

-- letters have come behind a log
pub record Added (letters : List (List ℕ)) (q : Queues) (ends log : List ℕ) (q' : Queues) (ends' : List ℕ) : Type 0 where
  pub order : InOrder q' ends' (log ++ concat letters)
  pub post : (lost : List ℕ) → post_of q' ends' (log ++ concat letters) lost ≡ posts (map packet_of_bytes letters) (post_of q ends log lost)

-- they have, behind each log of so many bytes
abbrev pub AddsTo : ℕ → List (List ℕ) → Queues → List ℕ → Queues → List ℕ → Type 0
AddsTo before letters q ends q' ends' = (log : List ℕ) → length log ≡ before → InOrder q ends log → Added letters q ends log q' ends'
