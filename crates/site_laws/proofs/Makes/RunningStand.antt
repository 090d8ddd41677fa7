-- What stands in a store, by what was told: it stays where the store tells nothing, and an instance is put in place.
use Rattle.std.proofs.Common.{◌≡◌, ◌≤◌, ℕ, ◌==◌, true, false, List, [], ◌∷◌, Some, None, refl, sym, ◌∙◌, ap, subst, inl, inr}
use Rattle.role_steps.proofs.of_plain_facts.Numbers.{equal}
use Rattle.role_steps.proofs.of_plain_facts.Options.{none_some, some_same}
use Rattle.locus_ids.specs.declared.ids.EpochId.{EpochId}
use Rattle.locus_ids.specs.declared.ids.FileId.{FileId}
use Rattle.locus_ids.specs.declared.ids.Mode.{Mode}
use Rattle.locus_ids.specs.declared.sites.Members.{Members}
use Rattle.commit_graph.specs.Grants.{is_read}
use Rattle.trace_book.specs.declared.record.Record.{Record}
use Rattle.trace_book.specs.declared.record.Record.TheVariants as says
use Rattle.role_steps.specs.Tables.{row, with_latest}
use Rattle.role_steps.specs.Views.{Told, Shown, Begins, Shuts, boot_in, serial_key}
use Rattle.role_steps.specs.Storage.{instance_key}
use Rattle.role_steps.specs.declared.instances.Instance.{Instance}
use Rattle.role_steps.specs.declared.instances.Stage.TheVariants as stage
use Rattle.the_run.specs.Kept.{Among}
use Rattle.the_run.specs.Steps.{from_user}
use Rattle.the_run.specs.Worlds.{Numbered}
use Rattle.the_run.proofs.Boots.{every_weaker}
use Rattle.site_laws.specs.Vectors.Written.{WasTold}
use Rattle.site_laws.proofs.Vectors.SyncFacts.{every_latest}
use Rattle.site_laws.specs.Locks.Going.{BegunAt, WasBegunAt, ShutAt, WasShutAt, IsGranted}
use Rattle.site_laws.specs.Locks.Joins.{WasJoined}
use Rattle.site_laws.proofs.Locks.Facts.{onto_later}
use Rattle.site_laws.proofs.Locks.GrantTold.{latest_other, latest_same}
use Rattle.site_laws.specs.Packs.WriterAsking.{AsksChange}
use Rattle.site_laws.proofs.Packs.WriterAsksRun.{Leads}
use Rattle.site_laws.specs.Makes.RunningStores.{HasOn, HasShut, AsksIn, IsAsked, InstanceSo, Stands}
use Rattle.site_laws.proofs.Makes.RunningSpine.{FreeRecord, Free, IsStoreOf, Elsewhere, Spine}
use Rattle.site_laws.proofs.Makes.RunningSpineRun.{SentFacts, SentOwed, Premise, Spines}

-- ---- what is owed of what stores tell ----

-- an instance that this site has begun on the file, that was granted, and that it hasn't shut
pub record Runs (past : List Told) (s : ℕ) (e : EpochId) (key : ℕ) (file : FileId) : Type 0 where
  pub was_begun : WasBegunAt past s e key file
  pub granted : IsGranted past e key
  pub not_shut : WasShutAt past s e key → ⊥

pub record RunsSomewhere (past : List Told) (e : EpochId) (key : ℕ) : Type 0 where
  pub ss : ℕ
  pub file : FileId
  pub runs : Runs past ss e key file

-- and that was asked for otherwise than to read
pub record RunsToWrite (sent : List Numbered) (past : List Told) (s : ℕ) (file : FileId) : Type 0 where
  pub epoch : EpochId
  pub key : ℕ
  pub mode : Mode
  pub runs : Runs past s epoch key file
  pub asked : IsAsked sent s epoch key mode file
  pub writes : is_read mode ≡ false

-- the first instance under its key at the site in the epoch, which was asked for
pub record BeginsNew (sent : List Numbered) (past : List Told) (s : ℕ) (e : EpochId) (key : ℕ) (file : FileId) : Type 0 where
  pub site : 1 ≤ s
  pub mode : Mode
  pub asked : IsAsked sent s e key mode file
  pub new : (other : FileId) → WasBegunAt past s e key other → ⊥

abbrev pub RecordOwed : List Numbered → List Told → Record → Type 0
RecordOwed sent past (says.Act e inst n o result) = RunsSomewhere past e (serial_key inst)
RecordOwed sent past (says.Commit file s stamp parents content) = RunsToWrite sent past s file
RecordOwed sent past _ = Unit {0}

abbrev pub StandOwed : SentOwed
StandOwed sent past (Shown r) = RecordOwed sent past r
StandOwed sent past (Begins s e inst file) = BeginsNew sent past s e (serial_key inst) file
StandOwed sent past _ = Unit {0}

abbrev pub StandFacts : SentFacts
StandFacts sent past me e is = Stands sent past me e.id is

-- no operation that changes a file is asked, in the boot that its sender has in an epoch, of an instance that was asked for to
-- read in that epoch
abbrev pub ChangesAreOfWriters : Premise
ChangesAreOfWriters sent past =
    (x y : Numbered) (serial t : ℕ) (members : Members) (m : Mode) (file : FileId) → Among x sent → Among y sent → AsksChange serial x.packet.body → AsksIn (serial_key (from_user x.packet.from serial)) m file y.packet.body →
    x.packet.epoch ≡ y.packet.epoch → WasJoined past t x.packet.epoch members → boot_in members.boot x.packet.from ≡ x.packet.from_boot → is_read m ≡ false

-- ---- more is sent ----

asked_more : (old new : List Numbered) → Leads old new → (s : ℕ) (e : EpochId) (key : ℕ) (m : Mode) (file : FileId) → IsAsked old s e key m file → IsAsked new s e key m file
asked_more old new l s e key m file h = record { opening = h.opening; was_sent = l h.opening h.was_sent; epoch_is = h.epoch_is; to_is = h.to_is; asks = h.asks }

instance_more : (old new : List Numbered) → Leads old new → (s : ℕ) (e : EpochId) (i : Instance) → InstanceSo old s e i → InstanceSo new s e i
instance_more old new l s e i h = record { asked = asked_more old new l s e (serial_key i.inst) i.mode i.file h.asked; owes = h.owes }

stands_more : (old new : List Numbered) → Leads old new → (past : List Told) (s : ℕ) (e : EpochId) (is : List Instance) → Stands old past s e is → Stands new past s e is
stands_more old new l past s e is h = record { begun = h.begun; shut = h.shut; each = every_weaker (InstanceSo old s e) (InstanceSo new s e) is (instance_more old new l s e) h.each }

record_more : (old new : List Numbered) → Leads old new → (past : List Told) (r : Record) → RecordOwed old past r → RecordOwed new past r
record_more old new l past (says.Act e inst n o result) h = h
record_more old new l past (says.Commit file s stamp parents content) h = record { epoch = h.epoch; key = h.key; mode = h.mode; runs = h.runs; asked = asked_more old new l s h.epoch h.key h.mode file h.asked; writes = h.writes }
record_more old new l past _ h = tt

owed_more : (old new : List Numbered) → Leads old new → (past : List Told) (x : Told) → StandOwed old past x → StandOwed new past x
owed_more old new l past (Shown r) h = record_more old new l past r h
owed_more old new l past (Begins s e inst file) h = record { site = h.site; mode = h.mode; asked = asked_more old new l s e (serial_key inst) h.mode file h.asked; new = h.new }
owed_more old new l past _ h = tt

-- ---- more is told ----

-- nothing is begun or shut
abbrev pub Neither : Told → Type 0
Neither (Begins s e inst file) = ⊥
Neither (Shuts s e inst) = ⊥
Neither _ = Unit {0}

not_begun : (s : ℕ) (e : EpochId) (key : ℕ) (file : FileId) (x : Told) → Neither x → BegunAt s e key file x → ⊥
not_begun s e key file (Begins t at inst of) h k = h
not_begun s e key file _ h k = k

not_shut : (s : ℕ) (e : EpochId) (key : ℕ) (x : Told) → Neither x → ShutAt s e key x → ⊥
not_shut s e key (Shuts t at inst) h k = h
not_shut s e key _ h k = k

not_begun_here : (s : ℕ) (e : EpochId) (key : ℕ) (file : FileId) (x : Told) → Elsewhere s x → BegunAt s e key file x → ⊥
not_begun_here s e key file (Begins t at inst of) h k = h k.0
not_begun_here s e key file _ h k = k

not_shut_here : (s : ℕ) (e : EpochId) (key : ℕ) (x : Told) → Elsewhere s x → ShutAt s e key x → ⊥
not_shut_here s e key (Shuts t at inst) h k = h k.0
not_shut_here s e key _ h k = k

told_before : (P : Told → Type 0) (x : Told) (past : List Told) → (P x → ⊥) → WasTold P (x ∷ past) → WasTold P past
told_before P x past never (inl k) = absurd (never k)
told_before P x past never (inr k) = k

-- where it isn't told that something is begun or shut at this site
pub stands_told : (sent : List Numbered) (past : List Told) (s : ℕ) (e : EpochId) (is : List Instance) (x : Told) → ((key : ℕ) (file : FileId) → BegunAt s e key file x → ⊥) → ((key : ℕ) → ShutAt s e key x → ⊥) → Stands sent past s e is → Stands sent (x ∷ past) s e is
stands_told sent past s e is x begun shut h = record {
  begun = λ key file k. h.begun key file (told_before (BegunAt s e key file) x past (begun key file) k);
  shut = λ key k. h.shut key (told_before (ShutAt s e key) x past (shut key) k);
  each = h.each;
}

pub stands_neither : (sent : List Numbered) (past : List Told) (s : ℕ) (e : EpochId) (is : List Instance) (x : Told) → Neither x → Stands sent past s e is → Stands sent (x ∷ past) s e is
stands_neither sent past s e is x n h = stands_told sent past s e is x (λ key file. not_begun s e key file x n) (λ key. not_shut s e key x n) h

begun_store : (s : ℕ) (e : EpochId) (key : ℕ) (file : FileId) (x : Told) → BegunAt s e key file x → IsStoreOf s e x
begun_store s e key file (Begins t at inst of) h = (h.0, h.1)
begun_store s e key file _ h = absurd h

shut_store : (s : ℕ) (e : EpochId) (key : ℕ) (x : Told) → ShutAt s e key x → IsStoreOf s e x
shut_store s e key (Shuts t at inst) h = (h.0, h.1)
shut_store s e key _ h = absurd h

pub told_weaker : (P Q : Told → Type 0) (past : List Told) → ((x : Told) → P x → Q x) → WasTold P past → WasTold Q past
told_weaker P Q [] f h = h
told_weaker P Q (x ∷ older) f (inl h) = inl (f x h)
told_weaker P Q (x ∷ older) f (inr h) = inr (told_weaker P Q older f h)

free_record : (sent : List Numbered) (past : List Told) (r : Record) → FreeRecord r → RecordOwed sent past r
free_record sent past (says.Act e inst n o result) h = absurd h
free_record sent past (says.Commit file s stamp parents content) h = absurd h
free_record sent past _ h = tt

free_owed : (sent : List Numbered) (past : List Told) (x : Told) → Free x → StandOwed sent past x
free_owed sent past (Shown r) h = free_record sent past r h
free_owed sent past (Begins s e inst file) h = absurd h
free_owed sent past _ h = tt

stand_spine : (sent : List Numbered) → Spine (StandFacts sent) (StandOwed sent)
stand_spine sent = record {
  later = λ past me e is x h k. stands_told sent past me e.id is x (λ key file. not_begun_here me e.id key file x h) (λ key. not_shut_here me e.id key x h) k;
  fresh = λ past me e never. record {
    begun = λ key file k. absurd (never (told_weaker (BegunAt me e.id key file) (IsStoreOf me e.id) past (begun_store me e.id key file) k));
    shut = λ key k. absurd (never (told_weaker (ShutAt me e.id key) (IsStoreOf me e.id) past (shut_store me e.id key) k));
    each = tt;
  };
  free = λ past x h. free_owed sent past x h;
}

pub stand_spines : Spines ChangesAreOfWriters StandFacts StandOwed
stand_spines = record {
  at = stand_spine;
  more = λ old new l past me e is h. stands_more old new l past me e.id is h;
  owed_more = λ old new l past x h. owed_more old new l past x h;
  earlier = λ old new l told past h x y serial t members m file a b change asks same joined boot. h x y serial t members m file (l x a) (l y b) change asks same (onto_later told past _ joined) boot;
}

-- ---- an instance is put in place ----

by_test : (a b : ℕ) (R : Type 0) → ((a == b) ≡ true → R) → ((a == b) ≡ false → R) → R
by_test a b R f g = (elim (a == b) as (λ t. (a == b) ≡ t → R) [ true ↦ f | false ↦ g ]) refl

-- the key of the new one is found at it, and all others as before
put_found : (new : Instance) (is : List Instance) (key : ℕ) (R : Type 0) → (instance_key new ≡ key → row instance_key key (with_latest instance_key new is) ≡ Some new → R) → (row instance_key key (with_latest instance_key new is) ≡ row instance_key key is → R) → R
put_found new is key R own other = by_test (instance_key new) key R
    (λ q. (let e : instance_key new ≡ key = equal (instance_key new) key q in own e (subst (λ (k : ℕ). row instance_key k (with_latest instance_key new is) ≡ Some new) e (latest_same instance_key new is))))
    (λ q. other (latest_other instance_key new key is q))

same_instance : (is : List Instance) (key other : ℕ) (i j : Instance) → key ≡ other → row instance_key key is ≡ Some i → row instance_key other is ≡ Some j → i ≡ j
same_instance is key other i j e a b = some_same i j (sym a ∙ (ap (λ (k : ℕ). row instance_key k is) e ∙ b))

-- in place of the one with its key, on the same file; if it's shut, it doesn't run
pub stands_put : (sent : List Numbered) (past : List Told) (s : ℕ) (e : EpochId) (is : List Instance) (old new : Instance) → row instance_key (instance_key new) is ≡ Some old → new.file ≡ old.file → (WasShutAt past s e (instance_key new) → new.stage ≡ stage.Running → ⊥) → InstanceSo sent s e new → Stands sent past s e is → Stands sent past s e (with_latest instance_key new is)
stands_put sent past s e is old new found file ends so h = record {
  begun = λ key of k. begun key of k (h.begun key of k);
  shut = λ key k. shut key k (h.shut key k);
  each = every_latest (InstanceSo sent s e) instance_key new is so h.each;
}
  where
    begun : (key : ℕ) (of : FileId) → WasBegunAt past s e key of → HasOn is key of → HasOn (with_latest instance_key new is) key of
    begun key of k g = put_found new is key (HasOn (with_latest instance_key new is) key of)
        (λ q r. (new, r, file ∙ (ap (λ (i : Instance). i.file) (same_instance is (instance_key new) key old g.0 q found g.1) ∙ g.2)))
        (λ r. (g.0, r ∙ g.1, g.2))

    shut : (key : ℕ) → WasShutAt past s e key → HasShut is key → HasShut (with_latest instance_key new is) key
    shut key k g = put_found new is key (HasShut (with_latest instance_key new is) key)
        (λ q r. (new, r, ends (subst (WasShutAt past s e) (sym q) k)))
        (λ r. (g.0, r ∙ g.1, g.2))

-- a new one, which is begun with that
pub stands_new : (sent : List Numbered) (past : List Told) (s : ℕ) (e : EpochId) (is : List Instance) (new : Instance) → row instance_key (instance_key new) is ≡ None → InstanceSo sent s e new → Stands sent past s e is → Stands sent (Begins s e new.inst new.file ∷ past) s e (with_latest instance_key new is)
stands_new sent past s e is new none so h = record {
  begun = λ key of k. begun key of k;
  shut = λ key k. shut key k;
  each = every_latest (InstanceSo sent s e) instance_key new is so h.each;
}
  where
    not_there : (key : ℕ) (i : Instance) → instance_key new ≡ key → row instance_key key is ≡ Some i → ⊥
    not_there key i q r = none_some i (sym none ∙ (ap (λ (k : ℕ). row instance_key k is) q ∙ r))

    begun : (key : ℕ) (of : FileId) → WasBegunAt (Begins s e new.inst new.file ∷ past) s e key of → HasOn (with_latest instance_key new is) key of
    begun key of (inl k) = (new, subst (λ (n : ℕ). row instance_key n (with_latest instance_key new is) ≡ Some new) k.2 (latest_same instance_key new is), k.3)
    begun key of (inr k) = let g : HasOn is key of = h.begun key of k in put_found new is key (HasOn (with_latest instance_key new is) key of)
        (λ q r. absurd (not_there key g.0 q g.1))
        (λ r. (g.0, r ∙ g.1, g.2))

    shut : (key : ℕ) → WasShutAt (Begins s e new.inst new.file ∷ past) s e key → HasShut (with_latest instance_key new is) key
    shut key (inl k) = absurd k
    shut key (inr k) = let g : HasShut is key = h.shut key k in put_found new is key (HasShut (with_latest instance_key new is) key)
        (λ q r. absurd (not_there key g.0 q g.1))
        (λ r. (g.0, r ∙ g.1, g.2))

-- what runs isn't shut
pub running_not_shut : (sent : List Numbered) (past : List Told) (s : ℕ) (e : EpochId) (is : List Instance) (key : ℕ) (i : Instance) → row instance_key key is ≡ Some i → i.stage ≡ stage.Running → Stands sent past s e is → WasShutAt past s e key → ⊥
running_not_shut sent past s e is key i found runs h k = let g : HasShut is key = h.shut key k in g.2 (subst (λ (j : Instance). j.stage ≡ stage.Running) (same_instance is key key i g.0 refl found g.1) runs)
