-- The history of a lawful trace is made version by version: each commit has a new stamp, where the laws of stamps hold, and
-- parents that stand.
use Rattle.std.proofs.Common.{◌≡◌, ℕ, ◌+◌, ◌==◌, ◌<◌, Bool, true, false, not, ◌&&◌, cond, List, [], ◌∷◌, filter, map, Option, Some, None, refl, sym, ap, ◌∙◌, subst, arith}
use Rattle.std.specs.List.{AllByRecursion}
use Rattle.std.specs.Option.{is_none}
use Rattle.tree_laws.proofs.of_plain_facts.Numbers.{equal}
use Rattle.tree_laws.proofs.of_plain_facts.Tests.{and_first}
use Rattle.locus_ids.specs.declared.config.Config.{Config}
use Rattle.locus_ids.specs.declared.ids.Brought.{Brought}
use Rattle.locus_ids.specs.declared.ids.EpochId.{EpochId}
use Rattle.locus_ids.specs.declared.ids.FileId.{FileId}
use Rattle.locus_ids.specs.declared.ids.Stamp.{Stamp}
use Rattle.locus_ids.specs.declared.sites.Sites.{Sites}
use Rattle.commit_graph.specs.declared.history.Version.{Version}
use Rattle.commit_graph.specs.Versions.{is_covered, is_in, is_version, same_file, same_stamp}
use Rattle.trace_book.specs.declared.record.Record.{Record}
use Rattle.trace_book.specs.declared.record.Record.TheVariants as says
use Rattle.tree_model.specs.declared.instance.Instance.{Instance}
use Rattle.tree_model.specs.Folds.{Trace}
use Rattle.tree_model.specs.Histories.{format_stamp, format_version, format_versions, history}
use Rattle.tree_model.specs.State.{TreeState, held_at, kept_of, stamps_of}
use Rattle.tree_model.specs.Tree.{tree_of}
use Rattle.tree_model.specs.Working.{list_of, merges}
use Rattle.tree_laws.specs.of_lawful_trace.Lawful.{MayCome}
use Rattle.tree_laws.specs.of_lawful_trace.TreeRows.{MayCommit, is_writing}
use Rattle.tree_laws.specs.Following.{RowsAreLawful}
use Rattle.tree_laws.proofs.Orders.Alone.{tree_named}
use Rattle.tree_laws.proofs.Orders.Keeping.{IsNew}
use Rattle.tree_laws.proofs.Orders.Knowing.{rows_sound}
use Rattle.tree_laws.proofs.Orders.Lists.{all_filtered}
use Rattle.tree_laws.proofs.Orders.Standing.{At, CopyStands, KnownStands, held_stands, same_file_eq}
use Rattle.store_laws.specs.Holdings.Order.{IsWellMade}
use Rattle.store_laws.proofs.Holdings.Seats.{Seat, rows_seated}

-- each commit has a stamp that its file has in no older version
abbrev pub CommitsAreNew : Config → Trace → Type 0
CommitsAreNew c [] = Unit {0}
CommitsAreNew c (r ∷ before) = IsNew c before r.what × CommitsAreNew c before

-- ---- the formats ----

not_equal : (a b : ℕ) → b < a → (a == b) ≡ false
not_equal a b low = at (a == b) refl
  where
    at : (x : Bool) → (a == b) ≡ x → x ≡ false
    at true e = (let same : a ≡ b = equal a b e in absurd (omega (arith, same, low)))
    at false e = refl

later_formats : (k j : ℕ) (packs : List Sites) → j < k → is_in (format_versions k packs) (At j 1) format_stamp ≡ false
later_formats k j [] low = refl
later_formats k j (p ∷ ps) low = at (p.0 == 0) (later_formats (k + 1) j ps (omega (arith, low)))
  where
    here : is_version (At j 1) format_stamp (format_version k) ≡ false
    here = ap (λ (b : Bool). (b && (1 == 1)) && same_stamp format_stamp format_stamp) (not_equal k j low)

    at : (b : Bool) → is_in (format_versions (k + 1) ps) (At j 1) format_stamp ≡ false → is_in (cond b (format_versions (k + 1) ps) (format_version k ∷ format_versions (k + 1) ps)) (At j 1) format_stamp ≡ false
    at true later = later
    at false later = rw here later

formats_made : (k : ℕ) (packs : List Sites) → IsWellMade (format_versions k packs)
formats_made k [] = tt
formats_made k (p ∷ ps) = at (p.0 == 0) (formats_made (k + 1) ps)
  where
    at : (b : Bool) → IsWellMade (format_versions (k + 1) ps) → IsWellMade (cond b (format_versions (k + 1) ps) (format_version k ∷ format_versions (k + 1) ps))
    at true later = later
    at false later = (later_formats (k + 1) k ps (omega arith), tt, later)

-- ---- what is known, and what parents are ----

pub known_all : (h : List Version) (g ino : ℕ) (known : List Brought) → AllByRecursion (KnownStands h g) known → AllByRecursion (λ (s : Stamp). is_in h (At g ino) s ≡ true) (stamps_of known ino)
known_all h g ino [] all = tt
known_all h g ino (b ∷ bs) all = at (b.ino == ino) refl (known_all h g ino bs all.1)
  where
    at : (k : Bool) → (b.ino == ino) ≡ k → AllByRecursion (λ (s : Stamp). is_in h (At g ino) s ≡ true) (stamps_of bs ino)
        → AllByRecursion (λ (s : Stamp). is_in h (At g ino) s ≡ true) (map (λ (y : Brought). y.stamp) (cond k (b ∷ filter (λ (y : Brought). y.ino == ino) bs) (filter (λ (y : Brought). y.ino == ino) bs)))
    at true e later = (subst (λ (n : ℕ). is_in h (At g n) b.stamp ≡ true) (equal b.ino ino e) all.0, later)
    at false e later = later

-- each version that the tree knows of a file stands
pub candidates_stand : (c : Config) (before : Trace) → RowsAreLawful c before → (e : EpochId) (f : FileId) → AllByRecursion (λ (s : Stamp). is_in (history c before) f s ≡ true) (stamps_of (tree_of c e f.group before).known f.ino)
candidates_stand c before rows e f = known_all (history c before) f.group f.ino (tree_of c e f.group before).known
    (subst (λ (g : ℕ). AllByRecursion (KnownStands (history c before) g) (tree_of c e f.group before).known) (tree_named c e f.group before).1 (rows_sound c before rows e f.group).known)

pub held_stand : (c : Config) (before : Trace) → RowsAreLawful c before → (e : EpochId) (f : FileId) (s : ℕ) (v : Stamp) → held_at (tree_of c e f.group before) s f.ino ≡ Some v → is_in (history c before) f v ≡ true
held_stand c before rows e f s v k = held_stands (history c before) f.group s f.ino (tree_of c e f.group before).copies v
    (subst (λ (g : ℕ). AllByRecursion (CopyStands (history c before) g) (tree_of c e f.group before).copies) (tree_named c e f.group before).1 (rows_sound c before rows e f.group).copies) k

-- the one of a filter is one of the list
pub filter_one : {X : Type 0} (P : X → Type 0) (q : X → Bool) (xs : List X) (y : X) → filter q xs ≡ y ∷ [] → AllByRecursion P xs → P y
filter_one P q xs y e all = (subst (AllByRecursion P) e (all_filtered P q xs all)).0

pub filter_passes : {X : Type 0} (q : X → Bool) (xs : List X) (y : X) → filter q xs ≡ y ∷ [] → q y ≡ true
filter_passes {X} q [] y e = absurd (empty e)
  where
    empty : ◌≡◌ {A = List X} [] (y ∷ []) → ⊥
    empty e = cc
filter_passes {X} q (x ∷ xs) y e = at (q x) refl e (filter_passes q xs y)
  where
    head : ◌≡◌ {A = List X} (x ∷ filter q xs) (y ∷ []) → x ≡ y
    head e = cc

    at : (b : Bool) → q x ≡ b → cond b (x ∷ filter q xs) (filter q xs) ≡ y ∷ [] → (filter q xs ≡ y ∷ [] → q y ≡ true) → q y ≡ true
    at true k e later = subst (λ (w : X). q w ≡ true) (head e) k
    at false k e later = later e

module _ (c : Config) (before : Trace) (rows : RowsAreLawful c before) (f : FileId) (z : ℕ) (stamp : Stamp) (parents : List Stamp) (content : List ℕ) (may : MayCommit c before f z stamp parents content) where
  abbrev t : TreeState
  t = tree_of c may.epoch f.group before

  abbrev h : List Version
  h = history c before

  abbrev x : Instance
  x = may.instance

  pub committed_file : x.grant.file ≡ f
  committed_file = same_file_eq x.grant.file f (and_first (same_file x.grant.file f) _ (filter_passes (is_writing f) t.instances x may.one))

  pub committed_seat : Seat may.epoch f.group before t x
  committed_seat = filter_one (Seat may.epoch f.group before t) (is_writing f) t.instances x may.one (rows_seated c before rows may.epoch f.group)

  last_stands : (o : Option Stamp) → x.work.last ≡ o → AllByRecursion (λ (p : Stamp). is_in h f p ≡ true) (list_of o)
  last_stands None e = tt
  last_stands (Some s) e = (held_stand c before rows may.epoch f x.grant.ss s (sym (ap (λ (y : FileId). held_at t x.grant.ss y.ino) committed_file) ∙ (sym committed_seat.last_is ∙ e)), tt)

  kept_stand : AllByRecursion (λ (p : Stamp). is_in h f p ≡ true) (kept_of h t f)
  kept_stand = all_filtered (λ (p : Stamp). is_in h f p ≡ true) (λ a. not (is_covered h f (stamps_of t.known f.ino) a)) (stamps_of t.known f.ino) (candidates_stand c before rows may.epoch f)

  either_stand : (b : Bool) → AllByRecursion (λ (p : Stamp). is_in h f p ≡ true) (cond b (kept_of h t x.grant.file) (list_of x.work.last))
  either_stand true = subst (λ (y : FileId). AllByRecursion (λ (p : Stamp). is_in h f p ≡ true) (kept_of h t y)) (sym committed_file) kept_stand
  either_stand false = last_stands x.work.last refl

  pub commit_parents_stand : AllByRecursion (λ (p : Stamp). is_in h f p ≡ true) parents
  commit_parents_stand = subst (AllByRecursion (λ (p : Stamp). is_in h f p ≡ true)) (sym may.above) (either_stand (merges x.grant.mode && is_none x.work.committed))

pub rows_made : (c : Config) (trace : Trace) → RowsAreLawful c trace → CommitsAreNew c trace → IsWellMade (history c trace)
rows_made c [] rows new = formats_made 0 c.packs
rows_made c (r ∷ before) rows new = step r.what rows.0 new.0 (rows_made c before rows.1 new.1)
  where
    step : (r : Record) → MayCome c before r → IsNew c before r → IsWellMade (history c before) → IsWellMade (history c (record { line = 0; what = r } ∷ before))
    step (says.Commit f z stamp parents content) may fresh made = (fresh, commit_parents_stand c before rows.1 f z stamp parents content may, made)
    step r may fresh made = made
