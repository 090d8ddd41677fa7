-- Packets: which may be delivered, which are taken, and the records that list them.
use Rattle.std.specs.Prelude.{ℕ, Bool, false, not, ◌||◌, Option, None, Some}
use Rattle.trace_book.specs.declared.record.Record.{Record}
use Rattle.trace_book.specs.declared.record.Record.TheVariants as says
use Rattle.wire_messages.specs.declared.packet.Packet.{Packet}
use Rattle.the_run.specs.Worlds.{World, Numbered}
use Rattle.the_run.specs.Runs.{packet_at, can_come, is_lost, next_packet}
use Rattle.packet_mail.specs.Posts.{number_in}
use Rattle.packet_mail.specs.declared.mail.PendingPacket.{PendingPacket}
use Rattle.site_place.specs.Places.{PlaceState, drops}

-- the packet was sent, isn't lost, and its circuit is up
abbrev pub comes_if : World → Option Numbered → Bool
comes_if w None = false
comes_if w (Some x) = not (is_lost w x.number || not (can_come w x))

abbrev pub may_come : ℕ → World → Bool
may_come k w = comes_if w (packet_at w k)

-- the packet was sent and isn't lost
abbrev pub stays_if : World → Option Numbered → Bool
stays_if w None = false
stays_if w (Some x) = not (is_lost w x.number)

abbrev pub may_be_lost : ℕ → World → Bool
may_be_lost k w = stays_if w (packet_at w k)

abbrev pub next_number : World → Option ℕ
next_number w = number_in (next_packet w)

abbrev pub listed : PendingPacket → Record
listed p = says.Packet p.number p.from p.to p.kind

-- the site is there, and doesn't drop the packet
abbrev pub is_taken : Packet → Option PlaceState → Bool
is_taken p None = false
is_taken p (Some site) = not (drops p site.place)
