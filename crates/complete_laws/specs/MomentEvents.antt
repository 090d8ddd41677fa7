-- Each event in the course of a line: at which site it comes, and in which world.
use Rattle.std.specs.Prelude.{ℕ, zero, suc, ◌≡◌, false, List, [], ◌∷◌, Option, None, Some}
use Rattle.locus_ids.specs.declared.config.Config.{Config}
use Rattle.schedule_lines.specs.declared.line.Line.{Line as LineWords}
use Rattle.schedule_lines.specs.declared.line.Line.TheVariants as line
use Rattle.role_steps.specs.Views.{Event, Calls, Receives, Ticks, Parts, Merges, GivesUp, all_sites}
use Rattle.the_run.specs.Runs.{arrives, is_busy, is_in_no_epoch, next_packet, packet_at, ticks_to}
use Rattle.the_run.specs.Worlds.{World, Numbered, place_at, happens}

-- what holds of an event: of its site, of what comes, and of the world before it
abbrev pub OfEvent : Type 1
OfEvent = ℕ → Event → World → Type 0

-- where a packet comes to the site that it names
abbrev pub WherePacket : OfEvent → Option Numbered → World → Type 0
WherePacket Q None w = Unit {0}
WherePacket Q (Some x) w = Q x.packet.to (Receives x.packet) w

-- where these sites tick, one after the other
abbrev pub WhereTicks : OfEvent → Config → ℕ → List ℕ → World → Type 0
WhereTicks Q c n [] w = Unit {0}
WhereTicks Q c n (s ∷ ss) w = Q s Ticks w × WhereTicks Q c n ss (happens c n s Ticks w)

-- where the next packet comes, and then the rest
abbrev pub WhereNext : OfEvent → Config → ℕ → (World → Type 0) → World → Option Numbered → Type 0
WhereNext Q c n Rest w None = Unit {0}
WhereNext Q c n Rest w (Some x) = Q x.packet.to (Receives x.packet) w × Rest (arrives c n x w)

-- where packets are delivered, the lowest-numbered first, so often at most
abbrev pub WhereDelivered : OfEvent → Config → ℕ → ℕ → World → Type 0
WhereDelivered Q c n zero w = Unit {0}
WhereDelivered Q c n (suc budget) w = WhereNext Q c n (WhereDelivered Q c n budget) w (next_packet w)

-- It holds of each event in the course of a line, which stands in this world as it begins. (A stop and a boot are no events of a site that
-- runs.)
abbrev pub EachEvent : OfEvent → Config → ℕ → LineWords → World → Type 0
EachEvent Q c n (line.Call s process words) w = is_busy process (place_at w s) ≡ false → Q s (Calls process words) w
EachEvent Q c n (line.Deliver k) w = WherePacket Q (packet_at w k) w
EachEvent Q c n (line.Tick s) w = Q s Ticks w
EachEvent Q c n (line.Part s) w = is_in_no_epoch (place_at w s) ≡ false → Q s Parts w
EachEvent Q c n (line.Merge s) w = Q s Merges w
EachEvent Q c n (line.GiveUp s) w = is_in_no_epoch (place_at w s) ≡ false → Q s GivesUp w
EachEvent Q c n (line.Settle budget) w = WhereTicks Q c n all_sites w × WhereDelivered Q c n budget (ticks_to c n all_sites w)
EachEvent Q c n _ w = Unit {0}
