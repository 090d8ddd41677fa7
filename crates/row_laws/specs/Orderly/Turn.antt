-- One event of a site between the first line of a block and the end of the round after it: the site doesn't give up, and a
-- packet that it takes was under way to it and isn't dropped.
use Rattle.std.specs.Prelude.{ℕ, ◌≡◌, ◌≢◌, ◌⊎◌, false, List, ◌++◌, Some}
use Rattle.locus_ids.specs.declared.config.Config.{Config}
use Rattle.wire_messages.specs.declared.packet.Packet.{Packet}
use Rattle.role_steps.specs.Views.{SiteView, Event, Receives, GivesUp}
use Rattle.the_run.specs.Kept.{Among}
use Rattle.the_run.specs.Steps.{is_dropped, step}
use Rattle.the_run.specs.Worlds.{World, Running, Numbered, place_at, links_of, newest_onto, numbered_from}

-- a packet of this kind was under way to the site, and is taken
pub record Comes (w : World) (s : ℕ) (v : SiteView) (p : Packet) : Type 0 where
  pub letter : Numbered
  pub there : Among letter w.underway
  pub is : letter.packet ≡ p
  pub to : p.to ≡ s
  pub undropped : is_dropped p v ≡ false

-- the event of the site, with the links that stand, makes the one world of the other
pub record Turn (c : Config) (first w u : World) (s : ℕ) (v : SiteView) (e : Event) : Type 0 where
  pub here : place_at w s ≡ Some (Running v)
  pub now : place_at u s ≡ Some (Running (step c s (links_of first s) v e).view)
  pub others : (t : ℕ) → s ≢ t → place_at u t ≡ place_at w t
  pub circuits : u.circuits ≡ w.circuits
  pub under : List Numbered
  pub count : ℕ
  pub underway : u.underway ≡ under ++ numbered_from count (step c s (links_of first s) v e).sent
  pub sent : u.sent ≡ newest_onto (numbered_from count (step c s (links_of first s) v e).sent) w.sent
  pub was : (y : Numbered) → Among y under → Among y w.underway
  pub stays : (y : Numbered) → Among y w.underway → Among y under ⊎ (e ≡ Receives y.packet)
  pub comes : (p : Packet) → e ≡ Receives p → Comes w s v p
  pub given : e ≡ GivesUp → ⊥
