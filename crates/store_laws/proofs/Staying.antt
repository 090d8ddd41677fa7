-- What a storage site has stays while others tell.
use Rattle.std.proofs.Common.{◌≡◌, ℕ, List, Option, Some, None, sym, subst, inl, inr}
use Rattle.locus_ids.specs.declared.config.Config.{Config}
use Rattle.locus_ids.specs.declared.ids.EpochId.{EpochId}
use Rattle.locus_ids.specs.declared.ids.FileId.{FileId}
use Rattle.locus_ids.specs.declared.ids.Mode.{Mode}
use Rattle.locus_ids.specs.declared.ids.Mode.TheVariants as mode
use Rattle.locus_ids.specs.declared.ids.Serial.{Serial}
use Rattle.trace_book.specs.declared.operation.Outcome.{Outcome}
use Rattle.trace_book.specs.declared.record.Record.{Record}
use Rattle.trace_book.specs.declared.record.Record.TheVariants as says
use Rattle.role_steps.specs.Storage.{instance_of}
use Rattle.role_steps.specs.Views.{Frame, Store, Told, Shown, Begins, Shuts}
use Rattle.role_steps.specs.declared.instances.Instance.{Instance}
use Rattle.role_steps.specs.declared.instances.Stage.{Stage}
use Rattle.role_steps.specs.declared.instances.Stage.TheVariants as stage
use Rattle.the_run.specs.Worlds.{Line}
use Rattle.tree_laws.specs.Following.{MayTell, IsFollowed}
use Rattle.tree_laws.specs.Doing.{IsAdopted, IsOfStore, IsStoreRecord, StoreHeld}
use Rattle.tree_laws.specs.Frames.{AllStay, OwnersStay, VersionsStay}
use Rattle.tree_laws.specs.Past.{BeginsIt, ShutsIt, WasBegun, WasShut}
use Rattle.tree_laws.specs.Stores.{AnsweredFact, HoldsMade, InstanceFact, LiesAs, RunsAs, StageFact, WaitsToBeGranted}
use Rattle.tree_laws.proofs.Boots.{every_both}
use Rattle.tree_laws.proofs.CarriedLooks.{More}
use Rattle.tree_laws.proofs.CarriedVersions.{joins_stay}
use Rattle.tree_laws.proofs.Seeing.{owners_stay}
use Rattle.tree_laws.proofs.Versions.{versions_stay}
use Rattle.tree_laws.specs.Orders.Joining.{PacksAreOfSites}
use Rattle.tree_laws.proofs.CarriedSizes.{begun_size_stays}
use Rattle.store_laws.proofs.Differing.{steps_stay}
use Rattle.store_laws.specs.Aside.{IsAside, RecordAside}
use Rattle.store_laws.proofs.Closing.{closes_stay}
use Rattle.store_laws.proofs.Holding.{copies_stay}
use Rattle.store_laws.proofs.Makers.{lies_stay}
use Rattle.store_laws.proofs.Runs.{works_stay}
use Rattle.store_laws.proofs.Waiting.{waits_stay}

answered_more : (n : ℕ) (x : Told) (older : List Line) (f : Frame) (i : Instance) (o : Option Outcome) → AnsweredFact older f i o → AnsweredFact (More n x older) f i o
answered_more n x older f i None a = a
answered_more n x older f i (Some result) a = (a.0, inr a.1)

-- another instance, or another site, is shut
not_shut : (c : Config) (f : Frame) (i : Instance) (older : List Line) (z : Told) → IsAside c older f i z → ShutsIt f.me f.epoch i.inst older z → ⊥
not_shut c f i older (Shuts site at inst) aside p = aside p.site_is p.epoch_is p.serial_is
not_shut c f i older _ aside p = absurd p

-- nobody else begins here
not_begun : (older : List Line) (me : ℕ) (e : EpochId) (i : Serial) (file : FileId) (z : Told) → (IsOfStore older me e z → ⊥) → BeginsIt me e i file older z → ⊥
not_begun older me e i file (Begins site at inst g) away p = away p.site_is
not_begun older me e i file _ away p = absurd p

-- what isn't of this site's instances leaves each of them
aside_of : (c : Config) (older : List Line) (f : Frame) (i : Instance) → WasBegun older f.me f.epoch i.inst i.file → (z : Told) → (IsOfStore older f.me f.epoch z → ⊥) → IsAside c older f i z
aside_of c older f i begun (Shown r) away = by_record r away
  where
    by_record : (r : Record) → (IsStoreRecord older f.me f.epoch r → ⊥) → RecordAside c older f i r
    by_record (says.Act e inst n o result) away = λ at is. away (at, (i.file, subst (λ (j : Serial). WasBegun older f.me f.epoch j i.file) (sym is) begun))
    by_record (says.Commit file site stamp parents content) away = λ y w at is. away at
    by_record _ away = tt
aside_of c older f i begun (Shuts site e inst) away = λ at is same. away at
aside_of c older f i begun _ away = tt

pub holds_more : (c : Config) (old new : List Line) → VersionsStay c old new → (f : Frame) (i : Instance) (m : Mode) → HoldsMade c old f i m → HoldsMade c new f i m
holds_more c old new v f i mode.Make (inl k) = inl k
holds_more c old new v f i mode.Make (inr k) = inr (k.0, v.have f.epoch f.me i.file k.0 k.1)
holds_more c old new v f i mode.Read k = k
holds_more c old new v f i mode.Write k = k
holds_more c old new v f i mode.Resolve k = k
holds_more c old new v f i mode.Mend k = k

-- ---- an instance, beside what is told ----

module _ (c : Config) (n : ℕ) (x : Told) (older : List Line) (few : PacksAreOfSites c) (h : IsFollowed c older) (may : MayTell c older x) (stay : AllStay c older (More n x older) x) (f : Frame) where
  versions : VersionsStay c older (More n x older)
  versions = versions_stay c n x older h may stay.fresh stay.order

  owners : OwnersStay c older (More n x older)
  owners = owners_stay c n x older h may versions

  runs_on : (i : Instance) → IsAside c older f i x → (WasShut older f.me f.epoch i.inst → ⊥) → WasShut (More n x older) f.me f.epoch i.inst → ⊥
  runs_on i aside runs (inl p) = not_shut c f i older x aside p
  runs_on i aside runs (inr p) = runs p

  -- what runs and waits for its grant is a make
  waits_more : (i : Instance) → WasBegun older f.me f.epoch i.inst i.file → LiesAs c older f i i.mode → WaitsToBeGranted c older f i → RunsAs c (More n x older) f i
  waits_more i begun lies w = (let l : LiesAs c older f i mode.Make = subst (LiesAs c older f i) w.mode_is lies in waits_stay c n x older h may f i begun w l.0 l.1)

  runs_more : (i : Instance) → IsAside c older f i x → WasBegun older f.me f.epoch i.inst i.file → LiesAs c older f i i.mode → (WasShut older f.me f.epoch i.inst → ⊥) → RunsAs c older f i → RunsAs c (More n x older) f i
  runs_more i aside begun lies runs (inl w) = inl (w.0, works_stay c n x older few h may stay.fresh f i w.0 aside runs w.1)
  runs_more i aside begun lies runs (inr w) = waits_more i begun lies w

  stage_more : (i : Instance) → IsAside c older f i x → WasBegun older f.me f.epoch i.inst i.file → LiesAs c older f i i.mode → (s : Stage) → StageFact c older f i s → StageFact c (More n x older) f i s
  stage_more i aside begun lies stage.Running k = (runs_more i aside begun lies k.2 k.0, k.1, runs_on i aside k.2)
  stage_more i aside begun lies (stage.Closing made a) k = (closes_stay c n x older h may owners versions f i made a k.0, k.1, inr k.2)
  stage_more i aside begun lies (stage.Closed a) k = ((k.0.0, inr k.0.1), k.1, inr k.2)

  pub instance_more : (i : Instance) → IsAside c older f i x → InstanceFact c older f i → InstanceFact c (More n x older) f i
  instance_more i aside k = record {
    begun = inr k.begun;
    sized = begun_size_stays c n x older h may versions f.epoch f.me i.inst i.file i.size k.begun k.sized;
    user = k.user;
    vector_is = joins_stay c older (More n x older) versions i.file i.parents i.vector k.vector_is;
    lies = lies_stay c n x older h may versions f i k.begun i.mode k.lies;
    holds = holds_more c older (More n x older) versions f i i.mode k.holds;
    stage = stage_more i aside k.begun k.lies i.stage k.stage;
    answered = answered_more n x older f i i.answered k.answered;
  }

-- ---- the whole store, while others tell ----

pub has_more : (n : ℕ) (x : Told) (older : List Line) (f : Frame) (s : Store) → (IsOfStore older f.me f.epoch x → ⊥) → ((i : Serial) (file : FileId) → WasBegun older f.me f.epoch i file → (y : Instance) × (instance_of s i ≡ Some y)) →
    (i : Serial) (file : FileId) → WasBegun (More n x older) f.me f.epoch i file → (y : Instance) × (instance_of s i ≡ Some y)
has_more n x older f s away has i file (inl p) = absurd (not_begun older f.me f.epoch i file x away p)
has_more n x older f s away has i file (inr p) = has i file p

pub store_stays : (c : Config) (n : ℕ) (x : Told) (older : List Line) → PacksAreOfSites c → IsFollowed c older → MayTell c older x → AllStay c older (More n x older) x → (f : Frame) (s : Store) → (IsOfStore older f.me f.epoch x → ⊥) → (IsAdopted f.me x → ⊥) → StoreHeld c f older s → StoreHeld c f (More n x older) s
store_stays c n x older few h may stay f s away unadopted k = record {
  copies = copies_stay c n x older h may stay f.me f.epoch s away unadopted k.copies;
  instances = record {
    instances = every_both (InstanceFact c older f) (InstanceFact c (More n x older) f) s.instances (λ i fact. instance_more c n x older few h may stay f i (aside_of c older f i fact.begun x away) fact) k.instances.instances;
    apart = k.instances.apart;
    has = has_more n x older f s away k.instances.has;
    steps = steps_stay c older (More n x older) (versions_stay c n x older h may stay.fresh stay.order) s.steps k.instances.steps;
  };
}
