-- Facts about the instances of a site, and what is owed of all that is told: what the parts of an event keep of them that
-- aren't the store's.
use Rattle.std.proofs.Common.{◌≡◌, ℕ, List, [], ◌∷◌, ◌++◌, Option, Some, None, sym, ◌∙◌, subst, inl, inr}
use Rattle.locus_ids.specs.declared.ids.EpochId.{EpochId}
use Rattle.locus_ids.specs.declared.sites.Members.{Members}
use Rattle.trace_book.specs.declared.record.Record.{Record}
use Rattle.trace_book.specs.declared.record.Record.TheVariants as says
use Rattle.role_steps.specs.Own.{Every}
use Rattle.role_steps.specs.Views.{SiteView, Told, Shown, Begins, Shuts, Reserves, DiskWrite, Outcome, quiet, joined_to, first_written}
use Rattle.role_steps.specs.declared.instances.Instance.{Instance}
use Rattle.role_steps.specs.declared.rounds.InEpoch.{InEpoch}
use Rattle.role_steps.proofs.Sending.{every_append}
use Rattle.the_run.proofs.Boots.{every_weaker}
use Rattle.site_laws.specs.Vectors.Written.{WasTold}
use Rattle.site_laws.specs.Vectors.Facts.{onto}
use Rattle.site_laws.proofs.Vectors.Facts.{onto_append}
use Rattle.site_laws.specs.Locks.Joins.{WasJoined, JoinsAreOnce}
use Rattle.site_laws.proofs.Locks.Facts.{Later, onto_later}

-- by what was told before, facts about the instances that a site has in an epoch
abbrev pub Facts : Type 1
Facts = List Told → ℕ → InEpoch → List Instance → Type 0

-- what is owed of something that is told, by what was told before it
abbrev pub Owed : Type 1
Owed = List Told → Told → Type 0

-- ---- what stores tell ----

-- no store tells it
abbrev pub FreeRecord : Record → Type 0
FreeRecord (says.Act e inst n o result) = ⊥
FreeRecord (says.Commit file s stamp parents content) = ⊥
FreeRecord _ = Unit {0}

abbrev pub Free : Told → Type 0
Free (Shown r) = FreeRecord r
Free (Begins s e inst file) = ⊥
Free (Shuts s e inst) = ⊥
Free (Reserves s e inst file) = ⊥
Free _ = Unit {0}

-- this site's store tells it in this epoch
abbrev pub IsStoreOf : ℕ → EpochId → Told → Type 0
IsStoreOf s e (Begins t at inst file) = (t ≡ s) × (at ≡ e)
IsStoreOf s e (Shuts t at inst) = (t ≡ s) × (at ≡ e)
IsStoreOf s e (Reserves t at inst file) = (t ≡ s) × (at ≡ e)
IsStoreOf s e _ = ⊥

-- this site's store doesn't tell it
abbrev pub ElsewhereRecord : ℕ → Record → Type 0
ElsewhereRecord me (says.Commit file s stamp parents content) = s ≡ me → ⊥
ElsewhereRecord me _ = Unit {0}

abbrev pub Elsewhere : ℕ → Told → Type 0
Elsewhere me (Shown r) = ElsewhereRecord me r
Elsewhere me (Begins s e inst file) = s ≡ me → ⊥
Elsewhere me (Shuts s e inst) = s ≡ me → ⊥
Elsewhere me (Reserves s e inst file) = s ≡ me → ⊥
Elsewhere me _ = Unit {0}

-- if a store tells it, it's this site's
abbrev pub MineRecord : ℕ → Record → Type 0
MineRecord me (says.Commit file s stamp parents content) = s ≡ me
MineRecord me _ = Unit {0}

abbrev pub Mine : ℕ → Told → Type 0
Mine me (Shown r) = MineRecord me r
Mine me (Begins s e inst file) = s ≡ me
Mine me (Shuts s e inst) = s ≡ me
Mine me (Reserves s e inst file) = s ≡ me
Mine me _ = Unit {0}

-- a store tells it in an epoch that its site has joined
abbrev pub JoinedTold : List Told → Told → Type 0
JoinedTold now (Begins s e inst file) = (m : Members) × WasJoined now s e m
JoinedTold now (Shuts s e inst) = (m : Members) × WasJoined now s e m
JoinedTold now (Reserves s e inst file) = (m : Members) × WasJoined now s e m
JoinedTold now _ = Unit {0}

abbrev pub StoresJoined : List Told → Type 0
StoresJoined past = (s : ℕ) (e : EpochId) → WasTold (IsStoreOf s e) past → (m : Members) × WasJoined past s e m

free_elsewhere_record : (me : ℕ) (r : Record) → FreeRecord r → ElsewhereRecord me r
free_elsewhere_record me (says.Commit file s stamp parents content) h = absurd h
free_elsewhere_record me _ h = tt

pub free_elsewhere : (me : ℕ) (x : Told) → Free x → Elsewhere me x
free_elsewhere me (Shown r) h = free_elsewhere_record me r h
free_elsewhere me (Begins s e inst file) h = absurd h
free_elsewhere me (Shuts s e inst) h = absurd h
free_elsewhere me (Reserves s e inst file) h = absurd h
free_elsewhere me _ h = tt

free_mine_record : (me : ℕ) (r : Record) → FreeRecord r → MineRecord me r
free_mine_record me (says.Commit file s stamp parents content) h = absurd h
free_mine_record me _ h = tt

pub free_mine : (me : ℕ) (x : Told) → Free x → Mine me x
free_mine me (Shown r) h = free_mine_record me r h
free_mine me (Begins s e inst file) h = absurd h
free_mine me (Shuts s e inst) h = absurd h
free_mine me (Reserves s e inst file) h = absurd h
free_mine me _ h = tt

free_joined : (now : List Told) (x : Told) → Free x → JoinedTold now x
free_joined now (Shown r) h = tt
free_joined now (Begins s e inst file) h = absurd h
free_joined now (Shuts s e inst) h = absurd h
free_joined now (Reserves s e inst file) h = absurd h
free_joined now _ h = tt

mine_elsewhere_record : (s t : ℕ) (r : Record) → (s ≡ t → ⊥) → MineRecord s r → ElsewhereRecord t r
mine_elsewhere_record s t (says.Commit file u stamp parents content) ne h = λ e. ne (sym h ∙ e)
mine_elsewhere_record s t _ ne h = tt

-- what is told of one site's store isn't told of another's
pub mine_elsewhere : (s t : ℕ) (x : Told) → (s ≡ t → ⊥) → Mine s x → Elsewhere t x
mine_elsewhere s t (Shown r) ne h = mine_elsewhere_record s t r ne h
mine_elsewhere s t (Begins u e inst file) ne h = λ q. ne (sym h ∙ q)
mine_elsewhere s t (Shuts u e inst) ne h = λ q. ne (sym h ∙ q)
mine_elsewhere s t (Reserves u e inst file) ne h = λ q. ne (sym h ∙ q)
mine_elsewhere s t _ ne h = tt

joined_later : (a b : List Told) → Later a b → (x : Told) → JoinedTold a x → JoinedTold b x
joined_later a b l (Shown r) h = tt
joined_later a b l (Begins s e inst file) h = (h.0, l _ h.1)
joined_later a b l (Shuts s e inst) h = (h.0, l _ h.1)
joined_later a b l (Reserves s e inst file) h = (h.0, l _ h.1)
joined_later a b l _ h = tt

pub joins_later : (a b : List Told) → Later a b → (xs : List Told) → Every (JoinedTold a) xs → Every (JoinedTold b) xs
joins_later a b l xs h = every_weaker (JoinedTold a) (JoinedTold b) xs (joined_later a b l) h

pub store_joined : (now : List Told) (s : ℕ) (e : EpochId) (x : Told) → JoinedTold now x → IsStoreOf s e x → (m : Members) × WasJoined now s e m
store_joined now s e (Shown r) h k = absurd k
store_joined now s e (Begins t at inst file) h k = (h.0, subst (λ (n : ℕ). WasJoined now n e h.0) k.0 (subst (λ (i : EpochId). WasJoined now t i h.0) k.1 h.1))
store_joined now s e (Shuts t at inst) h k = (h.0, subst (λ (n : ℕ). WasJoined now n e h.0) k.0 (subst (λ (i : EpochId). WasJoined now t i h.0) k.1 h.1))
store_joined now s e (Reserves t at inst file) h k = (h.0, subst (λ (n : ℕ). WasJoined now n e h.0) k.0 (subst (λ (i : EpochId). WasJoined now t i h.0) k.1 h.1))
store_joined now s e _ h k = absurd k

abbrev JoinedBy : List Told → List Told → Type 0
JoinedBy now past = (s : ℕ) (e : EpochId) → WasTold (IsStoreOf s e) past → (m : Members) × WasJoined now s e m

joined_onto : (now told past : List Told) → Every (JoinedTold now) told → JoinedBy now past → JoinedBy now (onto told past)
joined_onto now [] past h k = k
joined_onto now (x ∷ xs) past h k = joined_onto now xs (x ∷ past) h.1 (λ s e g. one s e g)
  where
    one : (s : ℕ) (e : EpochId) → WasTold (IsStoreOf s e) (x ∷ past) → (m : Members) × WasJoined now s e m
    one s e (inl g) = store_joined now s e x h.0 g
    one s e (inr g) = k s e g

pub stores_after : (told past : List Told) → Every (JoinedTold (onto told past)) told → StoresJoined past → StoresJoined (onto told past)
stores_after told past h k = joined_onto (onto told past) told past h (λ s e g. (let r : (m : Members) × WasJoined past s e m = k s e g in (r.0, onto_later told past _ r.1)))

pub free_joins : (now xs : List Told) → Every Free xs → Every (JoinedTold now) xs
free_joins now xs h = every_weaker Free (JoinedTold now) xs (free_joined now) h

-- ---- what the facts and what is owed must meet, but for what stores do ----

pub record Spine (F : Facts) (G : Owed) : Type 0 where
  -- facts stay where this site's store tells nothing
  pub later : (past : List Told) (me : ℕ) (e : InEpoch) (is : List Instance) (x : Told) → Elsewhere me x → F past me e is → F (x ∷ past) me e is
  -- they hold of no instances in an epoch in which the store has told nothing yet
  pub fresh : (past : List Told) (me : ℕ) (e : InEpoch) → (WasTold (IsStoreOf me e.id) past → ⊥) → F past me e []
  -- nothing is owed of what no store tells
  pub free : (past : List Told) (x : Told) → Free x → G past x

pub elsewhere_onto : (F : Facts) (G : Owed) → Spine F G → (told past : List Told) (me : ℕ) (e : InEpoch) (is : List Instance) → Every (Elsewhere me) told → F past me e is → F (onto told past) me e is
elsewhere_onto F G s [] past me e is h k = k
elsewhere_onto F G s (x ∷ xs) past me e is h k = elsewhere_onto F G s xs (x ∷ past) me e is h.1 (s.later past me e is x h.0 k)

-- ---- earlier and later ----

pub order_before : (told past : List Told) → JoinsAreOnce (onto told past) → JoinsAreOnce past
order_before [] past h = h
order_before (x ∷ xs) past h = (order_before xs (x ∷ past) h).1

-- ---- a site, and an outcome of it ----

abbrev pub InSite : Facts → List Told → ℕ → SiteView → Option InEpoch → Type 0
InSite F past me v None = v.store.instances ≡ []
InSite F past me v (Some e) = WasJoined past me e.id e.members × F past me e v.store.instances

-- where no site has joined an epoch twice
abbrev pub SiteFact : Facts → List Told → ℕ → SiteView → Type 0
SiteFact F past me v = JoinsAreOnce past → InSite F past me v v.epoch

abbrev pub AllOwed : Owed → List Told → List Told → Type 0
AllOwed G past [] = Unit {0}
AllOwed G past (x ∷ xs) = G past x × AllOwed G (x ∷ past) xs

-- what is written is told before all else of the event
abbrev pub DiskOwed : Owed → ℕ → List Told → Option DiskWrite → Type 0
DiskOwed G me past None = Unit {0}
DiskOwed G me past (Some d) = G past (Shown d.says) × Mine me (Shown d.says)

pub record Keeps (F : Facts) (G : Owed) (me : ℕ) (past : List Told) (o : Outcome SiteView) : Type 0 where
  pub view : SiteFact F (onto o.told past) me o.view
  pub owed : AllOwed G past o.told
  pub mine : Every (Mine me) o.told
  pub joined : Every (JoinedTold (onto o.told past)) o.told
  pub disk : DiskOwed G me past o.written

pub owed_append : (G : Owed) (past a b : List Told) → AllOwed G past a → AllOwed G (onto a past) b → AllOwed G past (a ++ b)
owed_append G past [] b h g = g
owed_append G past (x ∷ xs) b h g = (h.0, owed_append G (x ∷ past) xs b h.1 g)

pub free_owed : (F : Facts) (G : Owed) → Spine F G → (past xs : List Told) → Every Free xs → AllOwed G past xs
free_owed F G s past [] h = tt
free_owed F G s past (x ∷ xs) h = (s.free past x h.0, free_owed F G s (x ∷ past) xs h.1)

pub in_elsewhere : (F : Facts) (G : Owed) → Spine F G → (told past : List Told) (me : ℕ) (v : SiteView) (o : Option InEpoch) → Every (Elsewhere me) told → InSite F past me v o → InSite F (onto told past) me v o
in_elsewhere F G s told past me v None h k = k
in_elsewhere F G s told past me v (Some e) h k = (onto_later told past _ k.0, elsewhere_onto F G s told past me e v.store.instances h k.1)

in_alike : (F : Facts) (past : List Told) (me : ℕ) (v w : SiteView) (o : Option InEpoch) → w.store.instances ≡ v.store.instances → InSite F past me v o → InSite F past me w o
in_alike F past me v w None e h = e ∙ h
in_alike F past me v w (Some i) e h = (h.0, subst (F past me i) (sym e) h.1)

pub alike : (F : Facts) (past : List Told) (me : ℕ) (v w : SiteView) → w.store.instances ≡ v.store.instances → w.epoch ≡ v.epoch → SiteFact F past me v → SiteFact F past me w
alike F past me v w e g h = λ order. subst (InSite F past me w) (sym g) (in_alike F past me v w v.epoch e (h order))

abbrev pub FreeWrite : Option DiskWrite → Type 0
FreeWrite None = Unit {0}
FreeWrite (Some d) = FreeRecord d.says

pub free_disk : (F : Facts) (G : Owed) → Spine F G → (me : ℕ) (past : List Told) (d : Option DiskWrite) → FreeWrite d → DiskOwed G me past d
free_disk F G s me past None h = tt
free_disk F G s me past (Some d) h = (s.free past (Shown d.says) h, free_mine_record me d.says h)

-- the instances and the epoch are left, and no store tells what is told
pub plain_keeps : (F : Facts) (G : Owed) → Spine F G → (me : ℕ) (past : List Told) (v : SiteView) (o : Outcome SiteView) → o.view.store.instances ≡ v.store.instances → o.view.epoch ≡ v.epoch → Every Free o.told → FreeWrite o.written → SiteFact F past me v → Keeps F G me past o
plain_keeps F G s me past v o e g free w h = record {
  view = λ order. in_elsewhere F G s o.told past me o.view o.view.epoch (every_weaker Free (Elsewhere me) o.told (free_elsewhere me) free) (alike F past me v o.view e g h (order_before o.told past order));
  owed = free_owed F G s past o.told free;
  mine = every_weaker Free (Mine me) o.told (free_mine me) free;
  joined = free_joins (onto o.told past) o.told free;
  disk = free_disk F G s me past o.written w;
}

pub quiet_keeps : (F : Facts) (G : Owed) (me : ℕ) (past : List Told) (v : SiteView) → SiteFact F past me v → Keeps F G me past (quiet v)
quiet_keeps F G me past v h = record { view = h; owed = tt; mine = tt; joined = tt; disk = tt }

disk_then : (G : Owed) (me : ℕ) (past : List Told) (a b : Option DiskWrite) → DiskOwed G me past a → b ≡ None → DiskOwed G me past (first_written a b)
disk_then G me past None b h e = subst (DiskOwed G me past) (sym e) tt
disk_then G me past (Some d) b h e = h

-- one thing, and then another that writes nothing
pub then_keeps : (F : Facts) (G : Owed) (me : ℕ) (past : List Told) (o p : Outcome SiteView) → p.written ≡ None → Keeps F G me past o → Keeps F G me (onto o.told past) p → Keeps F G me past (joined_to o p)
then_keeps F G me past o p none h g = record {
  view = subst (λ (now : List Told). SiteFact F now me p.view) (sym same) g.view;
  owed = owed_append G past o.told p.told h.owed g.owed;
  mine = every_append (Mine me) o.told p.told h.mine g.mine;
  joined = subst (λ (now : List Told). Every (JoinedTold now) (o.told ++ p.told)) (sym same) (every_append (JoinedTold end) o.told p.told (joins_later (onto o.told past) end (onto_later p.told (onto o.told past)) o.told h.joined) g.joined);
  disk = disk_then G me past o.written p.written h.disk none;
}
  where
    end : List Told
    end = onto p.told (onto o.told past)

    same : onto (o.told ++ p.told) past ≡ end
    same = onto_append o.told p.told past

pub in_epoch : (F : Facts) (past : List Told) (me : ℕ) (v : SiteView) (e : InEpoch) → v.epoch ≡ Some e → InSite F past me v v.epoch → InSite F past me v (Some e)
in_epoch F past me v e here h = subst (InSite F past me v) here h
