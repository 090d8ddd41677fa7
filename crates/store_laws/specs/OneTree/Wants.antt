-- Who wants which version over which own one: of each want that was sent, and of the own version of each delta, the site that asked has
-- that own version still and pulls the wanted one or one above it, or what it has isn't below the wanted one any more.
use Rattle.std.specs.Prelude.{ℕ, ◌≡◌, List, Option, Some}
use Rattle.locus_ids.specs.declared.config.Config.{Config}
use Rattle.locus_ids.specs.declared.ids.EpochId.{EpochId}
use Rattle.locus_ids.specs.declared.ids.FileId.{FileId}
use Rattle.locus_ids.specs.declared.ids.Stamp.{Stamp}
use Rattle.wire_messages.specs.declared.body.Body.{Body}
use Rattle.wire_messages.specs.declared.body.Body.TheVariants as body
use Rattle.wire_messages.specs.declared.packet.Packet.{Packet}
use Rattle.role_steps.specs.Own.{Every}
use Rattle.role_steps.specs.Views.{SiteView}
use Rattle.role_steps.specs.declared.pulls.Pull.{Pull}
use Rattle.role_steps.specs.declared.rounds.InEpoch.{InEpoch}
use Rattle.role_steps.specs.declared.synchronizing.LastLook.{LastLook}
use Rattle.role_steps.specs.declared.synchronizing.SyncTable.{SyncTable}
use Rattle.role_steps.specs.Pulling.{pull_key}
use Rattle.the_run.specs.Worlds.{Line, World, Numbered, Place, Running, place_at}
use Rattle.tree_laws.specs.Deltas.{DeltaFact, DifferIn, WantsOver}
use Rattle.tree_laws.specs.Packets.{PacketFact}
use Rattle.tree_laws.specs.Stores.{Ascends}

-- ---- a site ----

-- where the site is in the epoch, it wants the version over its own one
abbrev pub WantsAt : Config → List Line → ℕ → SiteView → EpochId → FileId → Stamp → Stamp → Type 0
WantsAt c trace site v e f wanted own = (x : InEpoch) → v.epoch ≡ Some x → x.id ≡ e → WantsOver c trace site v.pulls f wanted own

-- neither a want nor a delta
abbrev pub IsPlain : Body → Type 0
IsPlain (body.Want file wanted own) = ⊥
IsPlain (body.Delta file wanted pages) = ⊥
IsPlain _ = Unit {0}

-- a site pulls each file once, in their order, and its tables keep no wants to answer looks again
pub record IsTidy (v : SiteView) : Type 0 where
  pub ascends : Ascends pull_key v.pulls
  pub looks : Every (λ (t : SyncTable). Every (λ (l : LastLook). IsPlain l.body) t.looks) v.tables

-- ---- packets ----

-- so it is at all sites
abbrev pub WantsIn : Config → (ℕ → Option Place) → List Line → ℕ → EpochId → FileId → Stamp → Stamp → Type 0
WantsIn c places trace site e f wanted own = (v : SiteView) → places site ≡ Some (Running v) → WantsAt c trace site v e f wanted own

-- a want, and the own version to which a delta answers
abbrev pub BodyAsked : Config → (ℕ → Option Place) → List Line → Packet → Body → Type 0
BodyAsked c places trace p (body.Want file wanted own) = WantsIn c places trace p.from p.epoch file wanted own
BodyAsked c places trace p (body.Delta file wanted pages) = (own : Stamp) × WantsIn c places trace p.to p.epoch file wanted own × DifferIn c trace file own wanted pages
BodyAsked c places trace p _ = Unit {0}

abbrev pub IsAsked : Config → (ℕ → Option Place) → List Line → Packet → Type 0
IsAsked c places trace p = BodyAsked c places trace p p.body

-- ---- what arrives ----

abbrev pub DeltaOf : Config → List Line → ℕ → List Pull → Body → Type 0
DeltaOf c trace me pulls (body.Delta file wanted pages) = DeltaFact c trace me pulls file wanted pages
DeltaOf c trace me pulls _ = Unit {0}

-- a packet with its fact, and a delta with the own version to which it answers
pub record Arrives (c : Config) (trace : List Line) (p : Packet) (v : SiteView) : Type 0 where
  pub fact : PacketFact c trace p
  pub deltas : (x : InEpoch) → v.epoch ≡ Some x → x.id ≡ p.epoch → DeltaOf c trace p.to v.pulls p.body

-- ---- the world ----

-- Sites pull as they may, and each want and delta that was sent is so, delivered or not.
pub record AskedFact (c : Config) (w : World) : Type 0 where
  pub tidy : (s : ℕ) (v : SiteView) → place_at w s ≡ Some (Running v) → IsTidy v
  pub sent : Every (λ (x : Numbered). IsAsked c (place_at w) w.trace x.packet) w.sent
  pub underway : Every (λ (x : Numbered). IsAsked c (place_at w) w.trace x.packet) w.underway
