-- Each packet names the epoch that it speaks of.
use Rattle.std.specs.Prelude.{ℕ, ◌≡◌, ◌≤◌, ◌⊎◌, false, List, [], ◌∷◌, Option, Some, None}
use Rattle.locus_ids.specs.declared.ids.EpochId.{EpochId}
use Rattle.locus_ids.specs.declared.sites.Links.{Links}
use Rattle.locus_ids.specs.declared.config.Config.{Config}
use Rattle.trace_book.specs.declared.record.Record.{Record}
use Rattle.trace_book.specs.declared.record.Record.TheVariants as says
use Rattle.wire_messages.specs.declared.packet.Packet.{Packet}
use Rattle.wire_messages.specs.declared.body.Body.{Body}
use Rattle.wire_messages.specs.declared.body.Body.TheVariants.{Poll, Promise, Refuse}
use Rattle.the_run.specs.of_role_steps.Own.{Every}
use Rattle.the_run.specs.of_role_steps.Views.{SiteView, Told, Shown, Promises, Outcome, Event, Receives}
use Rattle.the_run.specs.of_role_steps.declared.rounds.InEpoch.{InEpoch}
use Rattle.the_run.specs.of_role_steps.declared.rounds.Round.{Round}
use Rattle.the_run.specs.Joins.{TableOk}
use Rattle.the_run.specs.Kept.{WasSent}
use Rattle.the_run.specs.Steps.{step}
use Rattle.the_run.specs.Worlds.{World, Running, Line, Numbered, place_at}
use Rattle.run_laws.specs.Words.{Works, InsideWrite}
use Rattle.run_laws.specs.Standing.{standing, standing_of, moves, OwnMoves, EpochsGoOn}

-- ---- what a site has done with an epoch id ----

pub data Deed : Type 0 where
  Promised : Deed
  Joined : Deed

abbrev pub DeedRecord : Deed → ℕ → EpochId → Record → Type 0
DeedRecord Joined s id (says.Join t i members) = (t ≡ s) × (i ≡ id)
DeedRecord d s id r = ⊥

abbrev pub DeedPromise : Deed → ℕ → EpochId → ℕ → EpochId → Type 0
DeedPromise Promised s id t i = (t ≡ s) × (i ≡ id)
DeedPromise Joined s id t i = ⊥

abbrev pub IsDeed : Deed → ℕ → EpochId → Told → Type 0
IsDeed d s id (Shown r) = DeedRecord d s id r
IsDeed d s id (Promises t i reach) = DeedPromise d s id t i
IsDeed d s id _ = ⊥

-- the site tells it in these
abbrev pub Tells : Deed → ℕ → EpochId → List Told → Type 0
Tells d s id [] = ⊥
Tells d s id (x ∷ xs) = IsDeed d s id x ⊎ Tells d s id xs

-- the trace has it
abbrev pub Has : Deed → ℕ → EpochId → List Line → Type 0
Has d s id [] = ⊥
Has d s id (x ∷ xs) = IsDeed d s id x.told ⊎ Has d s id xs

-- ---- the law, over what the sender has done ----

abbrev pub Deeds : Type 1
Deeds = Deed → EpochId → Type 0

-- A poll and a promise name an id that the sender has promised. A refusal names one whose number isn't above that of the id
-- for which it was refused. All others name an epoch that the sender has joined.
abbrev pub Names : Deeds → EpochId → Body → Type 0
Names K id Poll = K Promised id
Names K id (Promise reach) = K Promised id
Names K id (Refuse theirs) = id.number ≤ theirs.number
Names K id _ = K Joined id

abbrev pub DeedsOf : List Line → ℕ → Deeds
DeedsOf trace s d id = Has d s id trace

abbrev pub NamesItsEpoch : List Line → Numbered → Type 0
NamesItsEpoch trace x = Names (DeedsOf trace x.packet.from) x.packet.epoch x.packet.body

abbrev pub PacketsNameTheirEpoch : World → Type 0
PacketsNameTheirEpoch w = Every (NamesItsEpoch w.trace) w.sent

-- ---- the step of a site ----

abbrev pub Now : Deeds → ℕ → List Told → Deeds
Now K s told d id = K d id ⊎ Tells d s id told

abbrev pub PacketNames : Deeds → Packet → Type 0
PacketNames K p = Names K p.epoch p.body

abbrev pub IsEpochOf : EpochId → Option InEpoch → Type 0
IsEpochOf id None = ⊥
IsEpochOf id (Some e) = e.id ≡ id

-- what a site had done before an event: it was in the epoch, or had promised the id last
abbrev pub StoodWith : SiteView → Deeds
StoodWith v Joined id = IsEpochOf id v.epoch
StoodWith v Promised id = IsEpochOf id v.epoch ⊎ (v.promised ≡ id)

-- the event needs no packet, or has one that was sent
abbrev pub MayCome : World → Event → Type 0
MayCome w (Receives p) = (x : Numbered) × WasSent w x × (x.packet ≡ p)
MayCome w _ = Unit {0}

-- Each packet that a step of a running site sends names the epoch in which it was before the step, or one that it joins in
-- it; a poll or a promise likewise names the id that it had promised last or that it promises in it.
abbrev pub StepsNameTheirEpoch : Config → World → Type 0
StepsNameTheirEpoch c w =
    (s : ℕ) (links : Links) (v : SiteView) (e : Event) → place_at w s ≡ Some (Running v) → MayCome w e →
    Every (PacketNames (Now (StoodWith v) s (step c s links v e).told)) (step c s links v e).sent

-- ---- the invariant ----

-- a round is of the promised id, which isn't joined; a promised id that isn't joined finds the site in no epoch
pub record ViewOk (K : Deeds) (v : SiteView) : Type 0 where
  pub round_is : (r : Round) → v.round ≡ Some r → (r.id ≡ v.promised) × (v.installed ≡ false)
  pub waits : v.installed ≡ false → (v.epoch ≡ None) × K Promised v.promised
  pub joined : (e : InEpoch) → v.epoch ≡ Some e → K Joined e.id × K Promised e.id
  pub tables : Every TableOk v.tables

-- what an outcome of a site owes
pub record Fine (K : Deeds) (s : ℕ) (v : SiteView) (o : Outcome SiteView) : Type 0 where
  pub boot : o.view.boot ≡ v.boot
  pub view : ViewOk (Now K s o.told) o.view
  pub stands : moves s o.told (standing_of v) ≡ standing_of o.view
  pub law : OwnMoves s (standing_of v) o.told
  pub sent : Every (PacketNames (Now K s o.told)) o.sent
  pub written : InsideWrite o.written

-- all that it sends names the epoch that it is in
abbrev pub IsInEpoch : Option InEpoch → Packet → Type 0
IsInEpoch None p = ⊥
IsInEpoch (Some e) p = p.epoch ≡ e.id

-- what a site does inside an epoch
pub record Inner (v : SiteView) (o : Outcome SiteView) : Type 0 where
  pub installed : o.view.installed ≡ v.installed
  pub works : Works o
  pub sent : Every (IsInEpoch v.epoch) o.sent

pub record Good (w : World) : Type 0 where
  pub law : EpochsGoOn w.trace
  pub stands : (s : ℕ) (v : SiteView) → place_at w s ≡ Some (Running v) → standing s w.trace ≡ standing_of v
  pub views : (s : ℕ) (v : SiteView) → place_at w s ≡ Some (Running v) → ViewOk (DeedsOf w.trace s) v
  pub packets : Every (NamesItsEpoch w.trace) w.sent
  pub underway : Every (NamesItsEpoch w.trace) w.underway
