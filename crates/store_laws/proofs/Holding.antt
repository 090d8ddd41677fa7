-- What a site holds by the trace stands, and is what it was while others tell.
use Rattle.std.proofs.Common.{◌≡◌, ℕ, ◌==◌, Bool, true, false, cond, ◌&&◌, List, [], ◌∷◌, Option, Some, None, refl, sym, ◌∙◌, ap, subst, ◌⊎◌, inl, inr}
use Rattle.std.specs.Option.{option_map}
use Rattle.role_steps.proofs.of_plain_facts.Numbers.{apart_test, equal}
use Rattle.role_steps.proofs.of_plain_facts.Options.{none_some, some_same}
use Rattle.role_steps.proofs.of_plain_facts.Tests.{and_first, and_second, or_second}
use Rattle.locus_ids.specs.declared.config.Config.{Config}
use Rattle.locus_ids.specs.declared.ids.EpochId.{EpochId}
use Rattle.locus_ids.specs.declared.ids.FileId.{FileId}
use Rattle.locus_ids.specs.declared.ids.Stamp.{Stamp}
use Rattle.commit_graph.specs.Versions.{is_in, same_file}
use Rattle.trace_book.specs.declared.record.Record.{Record}
use Rattle.trace_book.specs.declared.record.Record.TheVariants as says
use Rattle.role_steps.specs.Views.{Store, Told, Shown}
use Rattle.the_run.specs.Worlds.{Line}
use Rattle.tree_model.specs.Files.{held_version, version_of}
use Rattle.tree_model.specs.Folds.{Trace}
use Rattle.tree_model.specs.Histories.{history, held, format_stamp}
use Rattle.tree_model.specs.Packs.{has_pack}
use Rattle.lawful_trace.specs.Lawful.{MayCome}
use Rattle.tree_laws.specs.Printed.{entries, onto_entries}
use Rattle.tree_laws.specs.Following.{MayTell, IsFollowed, RowsAreLawful}
use Rattle.tree_laws.specs.Frames.{VersionsStay, AllStay, IsFresh}
use Rattle.tree_laws.specs.Instances.{Stands}
use Rattle.tree_laws.specs.Doing.{IsAdopted, IsAdoptedRecord, IsOfStore, IsStoreRecord}
use Rattle.tree_laws.specs.Stores.{CopiesAreHeld, copy_for}
use Rattle.tree_laws.proofs.CarriedLooks.{More}
use Rattle.tree_laws.proofs.CarriedVersions.{same_version_of}
use Rattle.tree_laws.proofs.Rows.{followed_rows}
use Rattle.tree_laws.proofs.Versions.{versions_stay}
use Rattle.tree_laws.proofs.Orders.Knowing.{versions_stand}
use Rattle.tree_laws.proofs.Orders.Standing.{same_file_eq, newest, roots_stand}
use Rattle.store_laws.specs.Pulling.{AdoptsFile, MakesVersion}

-- ---- what is held stands ----

root_file : (f : FileId) → (f.ino == 1) ≡ true → f ≡ record { group = f.group; ino = 1 }
root_file f e = let k : f.ino ≡ 1 = equal f.ino 1 e in λ j. record { group = f.group; ino = k j }

-- by the new stamp or by what was held before
by_test : (b : Bool) (new s : Stamp) (old : Option Stamp) (R : Type 0) → (b ≡ true → new ≡ s → R) → (old ≡ Some s → R) → cond b (Some new) old ≡ Some s → R
by_test true new s old R now before e = now refl (some_same new s e)
by_test false new s old R now before e = before e

held_stands_after : (c : Config) (n : ℕ) (r : Record) (before : Trace) → MayCome c before r → RowsAreLawful c before → (me : ℕ) (f : FileId) (s : Stamp) → (held c before me f ≡ Some s → is_in (history c before) f s ≡ true) →
    held c (record { line = n; what = r } ∷ before) me f ≡ Some s → is_in (history c (record { line = n; what = r } ∷ before)) f s ≡ true
held_stands_after c n (says.Commit g site stamp parents content) before may rows me f s later e = by_test (same_file g f && (site == me)) stamp s (held c before me f) _
    (λ b same. newest (record { file = g; site = site; stamp = stamp; parents = parents; content = content }) (history c before) f s (same_file_eq g f (and_first (same_file g f) (site == me) b)) same)
    (λ old. or_second _ _ (later old)) e
held_stands_after c n (says.Adopt g site stamp) before may rows me f s later e = by_test (same_file g f && (site == me)) stamp s (held c before me f) _
    (λ b same. subst (λ (y : FileId). is_in (history c before) y s ≡ true) (same_file_eq g f (and_first (same_file g f) (site == me) b)) (subst (λ (y : Stamp). is_in (history c before) g y ≡ true) same ((versions_stand c before rows).known may.epoch g stamp may.known)))
    later e
held_stands_after c n _ before may rows me f s later e = later e

pub held_stands : (c : Config) (trace : Trace) → RowsAreLawful c trace → (me : ℕ) (f : FileId) (s : Stamp) → held c trace me f ≡ Some s → is_in (history c trace) f s ≡ true
held_stands c [] rows me f s e = by_test ((f.ino == 1) && has_pack c f.group me) format_stamp s None (is_in (history c []) f s ≡ true)
    (λ b same. subst (λ (y : FileId). is_in (history c []) y s ≡ true) (sym (root_file f (and_first (f.ino == 1) (has_pack c f.group me) b))) (subst (λ (y : Stamp). is_in (history c []) (record { group = f.group; ino = 1 }) y ≡ true) same (roots_stand c [] f.group me (and_second (f.ino == 1) (has_pack c f.group me) b))))
    (λ k. absurd (none_some s k)) e
held_stands c (r ∷ before) rows me f s e = held_stands_after c r.line r.what before rows.0 rows.1 me f s (held_stands c before rows.1 me f s) e

-- ---- while others tell ----

passed_over : (x : Bool) (site me : ℕ) (stamp : Stamp) (old : Option Stamp) → (site ≡ me → ⊥) → cond (x && (site == me)) (Some stamp) old ≡ old
passed_over true site me stamp old ne = rw (apart_test site me ne) refl
passed_over false site me stamp old ne = refl

held_record : (c : Config) (n : ℕ) (older : List Line) (r : Record) (me : ℕ) (e : EpochId) (f : FileId) → (IsStoreRecord older me e r → ⊥) → (IsAdoptedRecord me r → ⊥) → held c (record { line = n; what = r } ∷ entries older) me f ≡ held c (entries older) me f
held_record c n older (says.Commit g site stamp parents content) me e f away unadopted = passed_over (same_file g f) site me stamp (held c (entries older) me f) away
held_record c n older (says.Adopt g site stamp) me e f away unadopted = passed_over (same_file g f) site me stamp (held c (entries older) me f) unadopted
held_record c n older _ me e f away unadopted = refl

pub held_elsewhere : (c : Config) (n : ℕ) (x : Told) (older : List Line) (me : ℕ) (e : EpochId) (f : FileId) → (IsOfStore older me e x → ⊥) → (IsAdopted me x → ⊥) → held c (onto_entries n x (entries older)) me f ≡ held c (entries older) me f
held_elsewhere c n (Shown r) older me e f away unadopted = held_record c n older r me e f away unadopted
held_elsewhere c n _ older me e f away unadopted = refl

pub versions_same : (c : Config) (old new : List Line) → VersionsStay c old new → (f : FileId) (o : Option Stamp) → ((s : Stamp) → o ≡ Some s → Stands c old f s) →
    option_map (copy_for f) (option_map (version_of c (entries new) f) o) ≡ option_map (copy_for f) (option_map (version_of c (entries old) f) o)
versions_same c old new v f None stands = refl
versions_same c old new v f (Some s) stands = ap (λ y. Some (copy_for f y)) (same_version_of c old new v f s (stands s refl))

pub copies_stay : (c : Config) (n : ℕ) (x : Told) (older : List Line) → IsFollowed c older → MayTell c older x → AllStay c older (More n x older) x → (me : ℕ) (e : EpochId) (s : Store) → (IsOfStore older me e x → ⊥) → (IsAdopted me x → ⊥) → CopiesAreHeld c older me s → CopiesAreHeld c (More n x older) me s
copies_stay c n x older h may stay me e s away unadopted k = record { are = λ f narrow. k.are f narrow ∙ sym (same f); ascends = k.ascends }
  where
    versions : VersionsStay c older (More n x older)
    versions = versions_stay c n x older h may stay.fresh stay.order

    same : (f : FileId) → option_map (copy_for f) (held_version c (entries (More n x older)) me f) ≡ option_map (copy_for f) (held_version c (entries older) me f)
    same f = ap (λ (o : Option Stamp). option_map (copy_for f) (option_map (version_of c (entries (More n x older)) f) o)) (held_elsewhere c n x older me e f away unadopted)
        ∙ versions_same c older (More n x older) versions f (held c (entries older) me f) (λ t e. held_stands c (entries older) (followed_rows c older h) me f t e)

-- ---- what a site holds after a line ----

-- the same, or what it has just committed
abbrev pub HeldAfter : Config → ℕ → Told → List Line → ℕ → FileId → Type 0
HeldAfter c n x older me f = (held c (onto_entries n x (entries older)) me f ≡ held c (entries older) me f) ⊎ ((s : Stamp) × MakesVersion me f s x × (held c (onto_entries n x (entries older)) me f ≡ Some s))

held_after_record : (c : Config) (n : ℕ) (older : List Line) (r : Record) (me : ℕ) (f : FileId) → (AdoptsFile me f (Shown r) → ⊥) → HeldAfter c n (Shown r) older me f
held_after_record c n older (says.Commit g site stamp parents content) me f away = over (same_file g f && (site == me)) refl
  where
    over : (b : Bool) → (same_file g f && (site == me)) ≡ b → (cond b (Some stamp) (held c (entries older) me f) ≡ held c (entries older) me f) ⊎ ((s : Stamp) × ((g ≡ f) × (site ≡ me) × (stamp ≡ s)) × (cond b (Some stamp) (held c (entries older) me f) ≡ Some s))
    over true e = inr (stamp, (same_file_eq g f (and_first (same_file g f) (site == me) e), equal site me (and_second (same_file g f) (site == me) e), refl), refl)
    over false e = inl refl
held_after_record c n older (says.Adopt g site stamp) me f away = over (same_file g f && (site == me)) refl
  where
    over : (b : Bool) → (same_file g f && (site == me)) ≡ b → (cond b (Some stamp) (held c (entries older) me f) ≡ held c (entries older) me f) ⊎ ((s : Stamp) × ⊥ × (cond b (Some stamp) (held c (entries older) me f) ≡ Some s))
    over true e = absurd (away (same_file_eq g f (and_first (same_file g f) (site == me) e), equal site me (and_second (same_file g f) (site == me) e)))
    over false e = inl refl
held_after_record c n older _ me f away = inl refl

pub held_after : (c : Config) (n : ℕ) (x : Told) (older : List Line) (me : ℕ) (f : FileId) → (AdoptsFile me f x → ⊥) → HeldAfter c n x older me f
held_after c n (Shown r) older me f away = held_after_record c n older r me f away
held_after c n _ older me f away = inl refl

-- what is committed has a stamp that didn't stand
fresh_record : (c : Config) (older : List Line) (r : Record) (me : ℕ) (f : FileId) (s : Stamp) → IsFresh c older (Shown r) → MakesVersion me f s (Shown r) → Stands c older f s → ⊥
fresh_record c older (says.Commit g site stamp parents content) me f s fresh made stands = fresh (subst (λ (y : FileId). Stands c older y stamp) (sym made.0) (subst (Stands c older f) (sym made.2) stands))
fresh_record c older _ me f s fresh made stands = absurd made

pub fresh_made : (c : Config) (older : List Line) (x : Told) (me : ℕ) (f : FileId) (s : Stamp) → IsFresh c older x → MakesVersion me f s x → Stands c older f s → ⊥
fresh_made c older (Shown r) me f s fresh made stands = fresh_record c older r me f s fresh made stands
fresh_made c older _ me f s fresh made stands = absurd made
