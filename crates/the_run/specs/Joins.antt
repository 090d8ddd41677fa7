-- Every join of one epoch id has one list of members, and promised ids only rise.
use Rattle.std.specs.Prelude.{ℕ, ◌≡◌, ◌≤◌, ◌⊎◌, false, List, [], ◌∷◌, Option, Some, None}
use Rattle.locus_ids.specs.declared.ids.EpochId.{EpochId}
use Rattle.locus_ids.specs.declared.sites.Members.{Members}
use Rattle.role_steps.specs.of_trace_book.declared.record.Record.{Record}
use Rattle.role_steps.specs.of_trace_book.declared.record.Record.TheVariants as says
use Rattle.role_steps.specs.of_wire_messages.declared.packet.Packet.{Packet}
use Rattle.role_steps.specs.of_wire_messages.declared.body.Body.{Body}
use Rattle.role_steps.specs.of_wire_messages.declared.body.Body.TheVariants.{Install, Refuse}
use Rattle.role_steps.specs.Epochs.{is_epoch_below}
use Rattle.role_steps.specs.Own.{Every}
use Rattle.role_steps.specs.Views.{SiteView, Told, Shown, DiskWrite, Outcome}
use Rattle.role_steps.specs.declared.rounds.InEpoch.{InEpoch}
use Rattle.role_steps.specs.declared.rounds.Round.{Round}
use Rattle.role_steps.specs.declared.synchronizing.SyncTable.{SyncTable}
use Rattle.role_steps.specs.declared.synchronizing.LastLook.{LastLook}
use Rattle.the_run.specs.Worlds.{World, Running, Line, Numbered, place_at}
use Rattle.the_run.specs.Laws.{boot_number}

-- ---- the laws ----

-- the record is this site's join of the id with these members
abbrev pub IsJoinRecord : ℕ → EpochId → Members → Record → Type 0
IsJoinRecord s id m (says.Join t i n) = (t ≡ s) × (i ≡ id) × (n ≡ m)
IsJoinRecord s id m _ = ⊥

abbrev pub IsJoin : ℕ → EpochId → Members → Told → Type 0
IsJoin s id m (Shown r) = IsJoinRecord s id m r
IsJoin s id m _ = ⊥

-- the trace has this site's join of the id with these members
abbrev pub Joined : ℕ → EpochId → Members → List Line → Type 0
Joined s id m [] = ⊥
Joined s id m (x ∷ xs) = IsJoin s id m x.told ⊎ Joined s id m xs

-- of whichever sites, two joins of one id have the same members
abbrev pub OneList : List Line → Type 0
OneList trace = (s t : ℕ) (id : EpochId) (m n : Members) → Joined s id m trace → Joined t id n trace → m ≡ n

-- a site that is in an epoch has promised its id last, and the epoch's initiator has joined it with the same members
pub record EpochsAreJoined (w : World) : Type 0 where
  pub promised : (s : ℕ) (v : SiteView) (e : InEpoch) → place_at w s ≡ Some (Running v) → v.epoch ≡ Some e → e.id ≡ v.promised
  pub joined : (s : ℕ) (v : SiteView) (e : InEpoch) → place_at w s ≡ Some (Running v) → v.epoch ≡ Some e → Joined e.id.site e.id e.members w.trace

-- the first id isn't above the second
abbrev pub IsAtMost : EpochId → EpochId → Type 0
IsAtMost a b = is_epoch_below b a ≡ false

-- a site that still runs in the same boot has promised no lower id later
abbrev pub PromisesRise : World → World → Type 0
PromisesRise earlier later = (s : ℕ) (v u : SiteView) → place_at earlier s ≡ Some (Running v) → place_at later s ≡ Some (Running u) → u.boot ≡ v.boot → IsAtMost v.promised u.promised

-- ---- the invariant, over the joins so far: J s id m where the site s has joined the id with members m ----

abbrev pub Knowledge : Type 1
Knowledge = ℕ → EpochId → Members → Type 0

abbrev pub TellsJoin : ℕ → EpochId → Members → List Told → Type 0
TellsJoin s id m [] = ⊥
TellsJoin s id m (x ∷ xs) = IsJoin s id m x ⊎ TellsJoin s id m xs

abbrev pub Now : Knowledge → List Told → Knowledge
Now J told s id m = J s id m ⊎ TellsJoin s id m told

-- an initiator decides an id of its own boot, which it hasn't joined; all others take its list
abbrev pub MayJoin : Knowledge → ℕ → ℕ → EpochId → Members → Type 0
MayJoin J s boot id m = J id.site id m ⊎ ((id.site ≡ s) × (id.boot ≡ boot) × ((n : Members) → J s id n → ⊥))

abbrev pub LawfulRecord : Knowledge → ℕ → ℕ → Record → Type 0
LawfulRecord J s boot (says.Join t id m) = (t ≡ s) × MayJoin J s boot id m
LawfulRecord J s boot _ = Unit {0}

abbrev pub LawfulOne : Knowledge → ℕ → ℕ → Told → Type 0
LawfulOne J s boot (Shown r) = LawfulRecord J s boot r
LawfulOne J s boot _ = Unit {0}

abbrev pub And : Knowledge → Told → Knowledge
And J x s id m = J s id m ⊎ IsJoin s id m x

abbrev pub LawfulTold : Knowledge → ℕ → ℕ → List Told → Type 0
LawfulTold J s boot [] = Unit {0}
LawfulTold J s boot (x ∷ xs) = LawfulOne J s boot x × LawfulTold (And J x) s boot xs

-- an install has its initiator's list; a refusal is by an id whose number isn't lower
abbrev pub BodyFact : Knowledge → EpochId → Body → Type 0
BodyFact J id (Install m) = J id.site id m
BodyFact J id (Refuse theirs) = id.number ≤ theirs.number
BodyFact J id _ = Unit {0}

abbrev pub PacketFact : Knowledge → Packet → Type 0
PacketFact J p = BodyFact J p.epoch p.body

-- ---- what roles do inside an epoch ----

-- the body is neither an install nor a refusal
abbrev pub NoClaim : Body → Type 0
NoClaim (Install m) = ⊥
NoClaim (Refuse theirs) = ⊥
NoClaim _ = Unit {0}

abbrev pub Unclaimed : Packet → Type 0
Unclaimed p = NoClaim p.body

abbrev pub NoJoinRecord : Record → Type 0
NoJoinRecord (says.Join t i n) = ⊥
NoJoinRecord _ = Unit {0}

abbrev pub NoJoin : Told → Type 0
NoJoin (Shown r) = NoJoinRecord r
NoJoin _ = Unit {0}

abbrev pub NoWrite : Option DiskWrite → Type 0
NoWrite None = Unit {0}
NoWrite (Some d) = NoJoinRecord d.says

-- nothing is installed or refused, and nothing joined
abbrev pub Still : {V : Type 0} → Outcome V → Type 0
Still o = Every Unclaimed o.sent × Every NoJoin o.told × NoWrite o.written

-- a kept answer to a look is neither an install nor a refusal
abbrev pub LookOk : LastLook → Type 0
LookOk l = NoClaim l.body

abbrev pub TableOk : SyncTable → Type 0
TableOk t = Every LookOk t.looks

-- an outcome that joins nothing, and leaves what the laws speak of
pub record Plain (v : SiteView) (o : Outcome SiteView) : Type 0 where
  pub boot : o.view.boot ≡ v.boot
  pub round : o.view.round ≡ v.round
  pub promised : o.view.promised ≡ v.promised
  pub epoch : o.view.epoch ≡ v.epoch
  pub tables : Every TableOk o.view.tables
  pub still : Still o

-- ---- a site, and an outcome of it ----

pub record RoundOk (J : Knowledge) (s boot : ℕ) (promised id : EpochId) : Type 0 where
  pub id_is : id ≡ promised
  pub site_is : id.site ≡ s
  pub boot_is : id.boot ≡ boot
  pub fresh : (m : Members) → J s id m → ⊥

pub record ViewOk (J : Knowledge) (s : ℕ) (v : SiteView) : Type 0 where
  pub round_ok : (r : Round) → v.round ≡ Some r → RoundOk J s v.boot v.promised r.id
  pub risen : (id : EpochId) (m : Members) → J s id m → id.site ≡ s → id.boot ≡ v.boot → id.number ≤ v.promised.number
  pub epoch_ok : (e : InEpoch) → v.epoch ≡ Some e → J e.id.site e.id e.members
  pub epoch_is : (e : InEpoch) → v.epoch ≡ Some e → e.id ≡ v.promised
  pub tables_ok : Every TableOk v.tables

-- a site in this boot, which has promised no lower id than that one
pub record At (J : Knowledge) (s boot : ℕ) (low : EpochId) (v : SiteView) : Type 0 where
  pub boot_is : v.boot ≡ boot
  pub rises : IsAtMost low v.promised
  pub view : ViewOk J s v

pub record Fine (J : Knowledge) (s boot : ℕ) (low : EpochId) (o : Outcome SiteView) : Type 0 where
  pub now : At (Now J o.told) s boot low o.view
  pub law : LawfulTold J s boot o.told
  pub sent : Every (PacketFact (Now J o.told)) o.sent
  pub written : NoWrite o.written

-- ---- the world ----

-- of all joins: each has its initiator's list, which is one, of a boot that the initiator has had
pub record Lists (J : Knowledge) (boots : ℕ → ℕ) : Type 0 where
  pub own : (s : ℕ) (id : EpochId) (m : Members) → J s id m → J id.site id m
  pub one : (id : EpochId) (m n : Members) → J id.site id m → J id.site id n → m ≡ n
  pub low : (id : EpochId) (m : Members) → J id.site id m → id.boot ≤ boots id.site

abbrev pub JoinsOf : World → Knowledge
JoinsOf w s id m = Joined s id m w.trace

abbrev pub NumberedFact : Knowledge → Numbered → Type 0
NumberedFact J x = PacketFact J x.packet

pub record Good (w : World) : Type 0 where
  pub lists : Lists (JoinsOf w) (boot_number w)
  pub views : (s : ℕ) (v : SiteView) → place_at w s ≡ Some (Running v) → ViewOk (JoinsOf w) s v
  pub packets : Every (NumberedFact (JoinsOf w)) w.sent
  pub underway : Every (NumberedFact (JoinsOf w)) w.underway
