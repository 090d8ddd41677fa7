-- How great the numbers of epochs are.
use Rattle.std.specs.Prelude.{ℕ, ◌≡◌, ◌≤◌, Some}
use Rattle.locus_ids.specs.declared.ids.EpochId.{EpochId}
use Rattle.locus_ids.specs.declared.sites.Links.{Links}
use Rattle.locus_ids.specs.declared.config.Config.{Config}
use Rattle.wire_messages.specs.declared.packet.Packet.{Packet}
use Rattle.wire_messages.specs.declared.body.Body.{Body}
use Rattle.wire_messages.specs.declared.body.Body.TheVariants as body
use Rattle.role_steps.specs.Own.{Every}
use Rattle.role_steps.specs.Views.{SiteView, Event}
use Rattle.the_run.specs.Steps.{step}
use Rattle.the_run.specs.Worlds.{World, Running, Numbered, place_at}
use Rattle.run_laws.specs.Naming.{MayCome}

-- the id is of some epoch, and its number is at most this one
abbrev pub IsUpTo : ℕ → EpochId → Type 0
IsUpTo most id = (1 ≤ id.number) × (id.number ≤ most)

-- a refusal names one more id
abbrev pub NamesUpTo : ℕ → Body → Type 0
NamesUpTo most (body.Refuse theirs) = IsUpTo most theirs
NamesUpTo most _ = Unit {0}

-- so is each that the packet names
abbrev pub PacketIsUpTo : ℕ → Packet → Type 0
PacketIsUpTo most p = IsUpTo most p.epoch × NamesUpTo most p.body

abbrev pub NumberedIsUpTo : ℕ → Numbered → Type 0
NumberedIsUpTo most x = PacketIsUpTo most x.packet

-- each id that a packet names which was sent, and the number that a running site has promised last
pub record EpochsAreLow (w : World) : Type 0 where
  pub packets : Every (NumberedIsUpTo 134479872) w.sent
  pub promised : (s : ℕ) (v : SiteView) → place_at w s ≡ Some (Running v) → v.promised.number ≤ 134479872

-- each id that the next event of a running site names
abbrev pub NextEpochsAreLow : Config → World → Type 0
NextEpochsAreLow c w = (s : ℕ) (links : Links) (v : SiteView) (e : Event) → place_at w s ≡ Some (Running v) → MayCome w e → Every (PacketIsUpTo 134479873) (step c s links v e).sent
