-- Who wants a version over an own one does so still, or has one that isn't below it, when a version is adopted: what is adopted over the
-- own version is the wanted one or above it, and what is dropped leaves an own version that isn't below it.
use Rattle.std.proofs.Common.{◌≡◌, ℕ, ◌<◌, ◌==◌, Bool, true, false, not, ◌&&◌, cond, List, [], ◌∷◌, Option, Some, None, refl, sym, ◌∙◌, ap, subst, arith, ◌⊎◌, inl, inr}
use Rattle.std.specs.Option.{option_map}
use Rattle.std.proofs.lemmas.Bool.Decides.{nat_tests}
use Rattle.role_steps.proofs.of_plain_facts.Numbers.{equal, equal_self}
use Rattle.role_steps.proofs.of_plain_facts.Options.{some_same}
use Rattle.role_steps.proofs.of_plain_facts.Tests.{and_first, and_second, and_true, true_false}
use Rattle.locus_ids.specs.declared.config.Config.{Config}
use Rattle.locus_ids.specs.declared.ids.FileId.{FileId}
use Rattle.locus_ids.specs.declared.ids.Stamp.{Stamp}
use Rattle.locus_ids.specs.Sizes.{inode_span}
use Rattle.commit_graph.specs.Vectors.{vector_of}
use Rattle.commit_graph.specs.Versions.{same_file, same_stamp}
use Rattle.tree_model.specs.of_version_vector.Counters.{all_le}
use Rattle.role_steps.specs.Adoption.{adopt_record, adopts, adopts_first, adopts_pull, fits_own, is_above_own, is_ready, notes_own_at, table_group, with_adopted, without_pull}
use Rattle.role_steps.specs.Own.{Every}
use Rattle.role_steps.specs.Pulling.{is_over, pull_key, pull_of}
use Rattle.role_steps.specs.Storage.{copy_of}
use Rattle.role_steps.specs.Tables.{row, without_row}
use Rattle.role_steps.specs.Versions.{is_below}
use Rattle.role_steps.specs.Views.{Frame, SiteView, Told, Shown, Outcome, file_key}
use Rattle.role_steps.specs.declared.copies.FileCopy.{FileCopy}
use Rattle.role_steps.specs.declared.pulls.Pull.{Pull}
use Rattle.role_steps.specs.declared.synchronizing.SyncTable.{SyncTable}
use Rattle.the_run.specs.Kept.{Among}
use Rattle.the_run.specs.Worlds.{Line, told_onto}
use Rattle.tree_model.specs.Files.{HeldVersion, held_version, version_of}
use Rattle.tree_model.specs.Histories.{held, history}
use Rattle.tree_laws.specs.Deltas.{PullsAbove, WantsOver}
use Rattle.tree_laws.specs.Doing.{AllTold, PullsFact}
use Rattle.tree_laws.specs.Instances.{Stands}
use Rattle.tree_laws.specs.Printed.{entries}
use Rattle.tree_laws.specs.Stores.{Ascends, CopiesAreHeld, PullFact, copy_for}
use Rattle.store_laws.proofs.Commits.{file_own}
use Rattle.store_laws.proofs.Tabled.{file_of_key, row_found}
use Rattle.tree_laws.proofs.Syncs.Orderly.{below_through}
use Rattle.store_laws.specs.OneTree.Rest.{AllRest, Comes, Past, more}
use Rattle.store_laws.proofs.OneTree.Rising.{every_among}
use Rattle.store_laws.proofs.OneTree.WantsLines.{wants_line}

-- ---- vectors ----

pub not_self : (a : List ℕ) → is_below a a ≡ false
not_self a = over (all_le a a)
  where
    over : (b : Bool) → b && not b ≡ false
    over true = refl
    over false = refl

-- what is above another isn't below it
not_back : (a b : List ℕ) → is_below a b ≡ true → is_below b a ≡ false
not_back a b h = over (is_below b a) refl
  where
    over : (x : Bool) → is_below b a ≡ x → x ≡ false
    over true k = absurd (true_false (sym (below_through a b a h k) ∙ not_self a))
    over false k = refl

not_true : (b : Bool) → (b ≡ true → ⊥) → b ≡ false
not_true true h = absurd (h refl)
not_true false h = refl

-- ---- a table that ascends, with a row less ----

above_apart : (a b : ℕ) → a < b → (b == a) ≡ false
above_apart a b h = grind (arith, nat_tests)

-- what stands in it is found under its key
pub found_among : (p : Pull) (ps : List Pull) → Ascends pull_key ps → Among p ps → row pull_key (pull_key p) ps ≡ Some p
found_among p [] h m = absurd m
found_among p (q ∷ ps) h (inl e) = subst (λ (r : Pull). row pull_key (pull_key p) (r ∷ ps) ≡ Some p) e (own (pull_key p == pull_key p) (equal_self (pull_key p)))
  where
    own : (b : Bool) → b ≡ true → ◌≡◌ {A = Option Pull} (elim b [ true ↦ Some p | false ↦ row pull_key (pull_key p) ps ]) (Some p)
    own true e = refl
    own false e = absurd (true_false (sym e))
found_among p (q ∷ ps) h (inr m) = other (pull_key q == pull_key p) (apart (every_among (λ (r : Pull). pull_key q < pull_key r) p ps m h.0)) (found_among p ps h.1 m)
  where
    apart : pull_key q < pull_key p → (pull_key q == pull_key p) ≡ false
    apart lt = grind (arith, nat_tests)

    other : (b : Bool) → b ≡ false → row pull_key (pull_key p) ps ≡ Some p → ◌≡◌ {A = Option Pull} (elim b [ true ↦ Some q | false ↦ row pull_key (pull_key p) ps ]) (Some p)
    other false e k = k
    other true e k = absurd (true_false e)

every_left : (P : Pull → Type 0) (k : ℕ) (ps : List Pull) → Every P ps → Every P (without_row pull_key k ps)
every_left P k [] h = tt
every_left P k (p ∷ ps) h = over (pull_key p == k) (every_left P k ps h.1)
  where
    over : (b : Bool) → Every P (without_row pull_key k ps) → Every P (elim b [ true ↦ ps | false ↦ p ∷ without_row pull_key k ps ])
    over true later = h.1
    over false later = (h.0, later)

pub ascends_left : (k : ℕ) (ps : List Pull) → Ascends pull_key ps → Ascends pull_key (without_row pull_key k ps)
ascends_left k [] h = tt
ascends_left k (p ∷ ps) h = over (pull_key p == k) (every_left (λ (q : Pull). pull_key p < pull_key q) k ps h.0) (ascends_left k ps h.1)
  where
    over : (b : Bool) → Every (λ (q : Pull). pull_key p < pull_key q) (without_row pull_key k ps) → Ascends pull_key (without_row pull_key k ps) → Ascends pull_key (elim b [ true ↦ ps | false ↦ p ∷ without_row pull_key k ps ])
    over true low later = h.1
    over false low later = (low, later)

-- other rows are found as before
left_other : (k j : ℕ) (ps : List Pull) → (k ≡ j → ⊥) → row pull_key j (without_row pull_key k ps) ≡ row pull_key j ps
left_other k j [] ne = refl
left_other k j (p ∷ ps) ne = over (pull_key p == k) refl (left_other k j ps ne)
  where
    apart : (pull_key p == k) ≡ true → (pull_key p == j) ≡ false
    apart e = not_true (pull_key p == j) (λ q. ne (sym (equal (pull_key p) k e) ∙ equal (pull_key p) j q))

    skip : (b : Bool) → b ≡ false → ◌≡◌ {A = Option Pull} (row pull_key j ps) (elim b [ true ↦ Some p | false ↦ row pull_key j ps ])
    skip false e = refl
    skip true e = absurd (true_false e)

    within : row pull_key j (without_row pull_key k ps) ≡ row pull_key j ps → (b : Bool) → ◌≡◌ {A = Option Pull} (elim b [ true ↦ Some p | false ↦ row pull_key j (without_row pull_key k ps) ]) (elim b [ true ↦ Some p | false ↦ row pull_key j ps ])
    within later true = refl
    within later false = later

    over : (b : Bool) → (pull_key p == k) ≡ b → row pull_key j (without_row pull_key k ps) ≡ row pull_key j ps → row pull_key j (elim b [ true ↦ ps | false ↦ p ∷ without_row pull_key k ps ]) ≡ row pull_key j (p ∷ ps)
    over true e later = skip (pull_key p == j) (apart e)
    over false e later = within later (pull_key p == j)

among_left : (q : Pull) (k : ℕ) (ps : List Pull) → (pull_key q ≡ k → ⊥) → Among q ps → Among q (without_row pull_key k ps)
among_left q k [] ne m = absurd m
among_left q k (p ∷ ps) ne m = over (pull_key p == k) refl m (λ l. among_left q k ps ne l)
  where
    over : (b : Bool) → (pull_key p == k) ≡ b → (q ≡ p) ⊎ Among q ps → (Among q ps → Among q (without_row pull_key k ps)) → Among q (elim b [ true ↦ ps | false ↦ p ∷ without_row pull_key k ps ])
    over true e (inl same) later = absurd (ne (ap pull_key same ∙ equal (pull_key p) k e))
    over true e (inr l) later = l
    over false e (inl same) later = inl same
    over false e (inr l) later = inr (later l)

-- ---- one pull ----

module _ (c : Config) (trace : List Line) (narrow_all : (file : FileId) (stamp : Stamp) → Stands c trace file stamp → file.ino < inode_span) (f : Frame) (v : SiteView) (copies : CopiesAreHeld c trace f.me v.store) (rises : Ascends pull_key v.pulls) (p : Pull) (fact : PullFact c trace f.epoch f.me p) (there : Among p v.pulls) (g : FileId) (wanted own : Stamp) (stands : Stands c trace g wanted) where
  narrow : g.ino < inode_span
  narrow = narrow_all g wanted stands

  low : p.file.ino < inode_span
  low = narrow_all p.file fact.version.stamp fact.is_version.stands

  vector_is : p.vector ≡ vector_of (history c (entries trace)) p.file p.stamp
  vector_is = sym fact.vector_is ∙ (ap (λ (y : HeldVersion). y.vector) fact.is_version.same ∙ ap (vector_of (history c (entries trace)) p.file) fact.stamp_is)

  file_is : pull_key p ≡ file_key g → p.file ≡ g
  file_is e = file_of_key p.file g low narrow e

  -- the pull that is found for the file is this one
  is_it : (q : Pull) → pull_key p ≡ file_key g → pull_of v.pulls g ≡ Some q → q ≡ p
  is_it q e found = some_same q p (sym found ∙ (ap (λ (k : ℕ). row pull_key k v.pulls) (sym e) ∙ found_among p v.pulls rises there))

  copy_here : (now : HeldVersion) → pull_key p ≡ file_key g → held_version c (entries trace) f.me g ≡ Some now → copy_of v.store p.file ≡ Some (copy_for g now)
  copy_here now e has = ap (copy_of v.store) (file_is e) ∙ (copies.are g narrow ∙ ap (option_map (copy_for g)) has)

  -- the wanted version, or one above it: what is below that is below this pull
  up_to : (q : Pull) → pull_key p ≡ file_key g → q ≡ p → PullsAbove c trace g wanted own q → (low : List ℕ) → is_below low (vector_of (history c (entries trace)) g wanted) ≡ true → is_below low p.vector ≡ true
  up_to q e same above low h = over above.above
    where
      over : (q.stamp ≡ wanted) ⊎ (is_below (vector_of (history c (entries trace)) g wanted) q.vector ≡ true) → is_below low p.vector ≡ true
      over (inl s) = subst (λ (y : List ℕ). is_below low y ≡ true) (sym (vector_is ∙ (ap (vector_of (history c (entries trace)) p.file) (sym (ap (λ (y : Pull). y.stamp) same) ∙ s) ∙ ap (λ (y : FileId). vector_of (history c (entries trace)) y wanted) (file_is e)))) h
      over (inr b) = below_through low (vector_of (history c (entries trace)) g wanted) p.vector h (subst (λ (y : Pull). is_below (vector_of (history c (entries trace)) g wanted) y.vector ≡ true) same b)

  -- ---- a pull that doesn't fit is dropped ----

  pub dropped_wants : fits_own p (copy_of v.store p.file) ≡ false → WantsOver c trace f.me v.pulls g wanted own → WantsOver c trace f.me (without_pull p v).pulls g wanted own
  dropped_wants unfit w = record { now = w.now; held = w.held; over = over w.over (pull_key p == file_key g) refl }
    where
      same : (a : w.now.stamp ≡ own) (q : Pull) → pull_key p ≡ file_key g → pull_of v.pulls g ≡ Some q → PullsAbove c trace g wanted own q → is_below w.now.vector (vector_of (history c (entries trace)) g wanted) ≡ false
      same a q e found above = not_true (is_below w.now.vector (vector_of (history c (entries trace)) g wanted)) (λ h. true_false (sym (up_to q e (is_it q e found) above w.now.vector h) ∙ not_above))
        where
          own_same : (y : Stamp) → same_stamp y y ≡ true
          own_same y = grind (arith, nat_tests)

          over_own : is_over (copy_of v.store p.file) p.base ≡ true
          over_own = ap (λ (o : Option FileCopy). is_over o p.base) (copy_here w.now e w.held) ∙ (ap (is_over (Some (copy_for g w.now))) (ap (λ (y : Pull). y.base) (sym (is_it q e found)) ∙ above.base_is) ∙ subst (λ (y : Stamp). same_stamp w.now.stamp y ≡ true) a (own_same w.now.stamp))

          second : (x y : Bool) → x ≡ true → x && y ≡ false → y ≡ false
          second true y k l = l
          second false y k l = absurd (true_false (sym k))

          not_above : is_below w.now.vector p.vector ≡ false
          not_above = sym (ap (is_above_own p) (copy_here w.now e w.held)) ∙ second (is_over (copy_of v.store p.file) p.base) (is_above_own p (copy_of v.store p.file)) over_own unfit

      over : ((w.now.stamp ≡ own) × ((q : Pull) × (pull_of v.pulls g ≡ Some q) × PullsAbove c trace g wanted own q)) ⊎ (is_below w.now.vector (vector_of (history c (entries trace)) g wanted) ≡ false) → (b : Bool) → (pull_key p == file_key g) ≡ b →
          ((w.now.stamp ≡ own) × ((q : Pull) × (pull_of (without_pull p v).pulls g ≡ Some q) × PullsAbove c trace g wanted own q)) ⊎ (is_below w.now.vector (vector_of (history c (entries trace)) g wanted) ≡ false)
      over (inr h) b e = inr h
      over (inl a) true e = inr (same a.0 a.1.0 (equal (pull_key p) (file_key g) e) a.1.1 a.1.2)
      over (inl a) false e = inl (a.0, (a.1.0, left_other (pull_key p) (file_key g) v.pulls (λ q. true_false (sym (subst (λ (k : ℕ). (pull_key p == k) ≡ true) q (equal_self (pull_key p))) ∙ e)) ∙ a.1.1, a.1.2))

  -- ---- a pull that fits is adopted ----

  module _ (n : ℕ) (k : Comes c trace (Shown (adopt_record f p))) (fits : fits_own p (copy_of v.store p.file) ≡ true) (w : WantsOver c trace f.me v.pulls g wanted own) where
    abbrev after : List Line
    after = more n (Shown (adopt_record f p)) trace

    -- its own file: the site has it then, and it isn't below the wanted version
    at_own : pull_key p ≡ file_key g → WantsOver c after f.me (without_row pull_key (pull_key p) v.pulls) g wanted own
    at_own e = subst (λ (y : FileId). WantsOver c after f.me (without_row pull_key (pull_key p) v.pulls) y wanted own) (file_is e) (record {
      now = version_of c (entries after) p.file p.stamp;
      held = ap (λ (o : Option Stamp). option_map (version_of c (entries after) p.file) o) held_own;
      over = inr (subst (λ (y : FileId). is_below (vector_of (history c (entries trace)) p.file p.stamp) (vector_of (history c (entries trace)) y wanted) ≡ false) (sym (file_is e)) (subst (λ (y : List ℕ). is_below y (vector_of (history c (entries trace)) g wanted) ≡ false) vector_is (not_true (is_below p.vector (vector_of (history c (entries trace)) g wanted)) (clash w.over))));
    })
      where
        held_own : held c (entries after) f.me p.file ≡ Some p.stamp
        held_own = ap (λ (b : Bool). cond b (Some p.stamp) (held c (entries trace) f.me p.file)) (and_true (same_file p.file p.file) (f.me == f.me) (file_own p.file) (equal_self f.me))

        up : is_below w.now.vector p.vector ≡ true
        up = sym (ap (is_above_own p) (copy_here w.now e w.held)) ∙ and_second (is_over (copy_of v.store p.file) p.base) (is_above_own p (copy_of v.store p.file)) fits

        clash : ((w.now.stamp ≡ own) × ((q : Pull) × (pull_of v.pulls g ≡ Some q) × PullsAbove c trace g wanted own q)) ⊎ (is_below w.now.vector (vector_of (history c (entries trace)) g wanted) ≡ false) → is_below p.vector (vector_of (history c (entries trace)) g wanted) ≡ true → ⊥
        clash (inl a) h = true_false (sym (up_to a.1.0 e (is_it a.1.0 e a.1.1) a.1.2 p.vector h) ∙ not_self p.vector)
        clash (inr b) h = true_false (sym (below_through w.now.vector p.vector (vector_of (history c (entries trace)) g wanted) up h) ∙ b)

    pub adopted_wants : WantsOver c after f.me (without_row pull_key (pull_key p) v.pulls) g wanted own
    adopted_wants = over (pull_key p == file_key g) refl
      where
        apart : (pull_key p == file_key g) ≡ false → p.file ≡ g → ⊥
        apart e q = true_false (sym (subst (λ (y : FileId). (pull_key p == file_key y) ≡ true) q (equal_self (pull_key p))) ∙ e)

        keys_apart : (pull_key p == file_key g) ≡ false → pull_key p ≡ file_key g → ⊥
        keys_apart e q = true_false (sym (subst (λ (m : ℕ). (pull_key p == m) ≡ true) q (equal_self (pull_key p))) ∙ e)

        others : (pull_key p == file_key g) ≡ false → WantsOver c after f.me v.pulls g wanted own → WantsOver c after f.me (without_row pull_key (pull_key p) v.pulls) g wanted own
        others e u = record { now = u.now; held = u.held; over = still u.over }
          where
            still : ((u.now.stamp ≡ own) × ((q : Pull) × (pull_of v.pulls g ≡ Some q) × PullsAbove c after g wanted own q)) ⊎ (is_below u.now.vector (vector_of (history c (entries after)) g wanted) ≡ false) →
                ((u.now.stamp ≡ own) × ((q : Pull) × (pull_of (without_row pull_key (pull_key p) v.pulls) g ≡ Some q) × PullsAbove c after g wanted own q)) ⊎ (is_below u.now.vector (vector_of (history c (entries after)) g wanted) ≡ false)
            still (inl a) = inl (a.0, (a.1.0, left_other (pull_key p) (file_key g) v.pulls (keys_apart e) ∙ a.1.1, a.1.2))
            still (inr b) = inr b

        over : (b : Bool) → (pull_key p == file_key g) ≡ b → WantsOver c after f.me (without_row pull_key (pull_key p) v.pulls) g wanted own
        over true e = at_own (equal (pull_key p) (file_key g) e)
        over false e = others e (wants_line c n (Shown (adopt_record f p)) trace k f.me v.pulls g wanted own (λ a. apart e a.0) stands w)

-- ---- the first that is ready ----

noted_pulls : (f : Frame) (p : Pull) (o : Option SyncTable) (v : SiteView) → (notes_own_at f p o v).pulls ≡ v.pulls
noted_pulls f p None v = refl
noted_pulls f p (Some t) v = refl

module _ (c : Config) (n : ℕ) (trace : List Line) (past : Past c trace) (narrow_all : (file : FileId) (stamp : Stamp) → Stands c trace file stamp → file.ino < inode_span) (f : Frame) (g : FileId) (wanted own : Stamp) (stands : Stands c trace g wanted) where
  -- what the site is before
  record IsSo (ps : List Pull) (v : SiteView) : Type 0 where
    copies : CopiesAreHeld c trace f.me v.store
    rises : Ascends pull_key v.pulls
    left : Ascends pull_key ps
    there : Every (λ (p : Pull). Among p v.pulls) ps
    facts : PullsFact c f trace ps

  less_one : (p : Pull) (ps : List Pull) (v : SiteView) → IsSo (p ∷ ps) v → IsSo ps (without_pull p v)
  less_one p ps v s = record { copies = record { are = s.copies.are; ascends = s.copies.ascends }; rises = ascends_left (pull_key p) v.pulls s.rises; left = s.left.1; there = away ps s.left.0 s.there.1; facts = s.facts.1 }
    where
      apart : (a b : ℕ) → a < b → b ≡ a → ⊥
      apart a b lt e = omega (arith, lt, e)

      away : (qs : List Pull) → Every (λ (q : Pull). pull_key p < pull_key q) qs → Every (λ (q : Pull). Among q v.pulls) qs → Every (λ (q : Pull). Among q (without_pull p v).pulls) qs
      away [] a b = tt
      away (q ∷ qs) a b = (among_left q (pull_key p) v.pulls (apart (pull_key p) (pull_key q) a.0) b.0, away qs a.1 b.1)

  rest_so : (p : Pull) (ps : List Pull) (v : SiteView) → IsSo (p ∷ ps) v → IsSo ps v
  rest_so p ps v s = record { copies = s.copies; rises = s.rises; left = s.left.1; there = s.there.1; facts = s.facts.1 }

  abbrev Stays : SiteView → Outcome SiteView → Type 0
  Stays v o = AllTold c n trace o.told → AllRest c n trace o.told → WantsOver c trace f.me v.pulls g wanted own → WantsOver c (told_onto n o.told trace) f.me o.view.pulls g wanted own

  first_wants : (ps : List Pull) (v : SiteView) → IsSo ps v → Stays v (adopts_first f ps v)
  first_wants [] v s may rest w = w
  first_wants (p ∷ ps) v s may rest w = over (is_ready v p) (first_wants ps v (rest_so p ps v s)) (first_wants ps (without_pull p v) (less_one p ps v s)) may rest w
    where
      takes : (b : Bool) → fits_own p (copy_of v.store p.file) ≡ b → Stays (without_pull p v) (adopts_first f ps (without_pull p v)) → Stays v (elim b as (λ (z : Bool). Outcome SiteView) [ true ↦ adopts_pull f p v | false ↦ adopts_first f ps (without_pull p v) ])
      takes true e without may rest w = subst (λ (qs : List Pull). WantsOver c (more n (Shown (adopt_record f p)) trace) f.me qs g wanted own) (sym (noted_pulls f p (row table_group p.file.group v.tables) (with_adopted p v)))
          (adopted_wants c trace narrow_all f v s.copies s.rises p s.facts.0 s.there.0 g wanted own stands n (record { past = past; may = may.0; rest = rest.0 }) e w)
      takes false e without may rest w = without may rest (dropped_wants c trace narrow_all f v s.copies s.rises p s.facts.0 s.there.0 g wanted own stands e w)

      over : (b : Bool) → Stays v (adopts_first f ps v) → Stays (without_pull p v) (adopts_first f ps (without_pull p v)) →
          Stays v (elim b as (λ (z : Bool). Outcome SiteView) [ true ↦ elim (fits_own p (copy_of v.store p.file)) [ true ↦ adopts_pull f p v | false ↦ adopts_first f ps (without_pull p v) ] | false ↦ adopts_first f ps v ])
      over true later without = takes (fits_own p (copy_of v.store p.file)) refl without
      over false later without = later

  all_there : (ps qs : List Pull) → ((p : Pull) → Among p ps → Among p qs) → Every (λ (p : Pull). Among p qs) ps
  all_there [] qs h = tt
  all_there (p ∷ ps) qs h = (h p (inl refl), all_there ps qs (λ q m. h q (inr m)))

  pub adopts_wants : (v : SiteView) → CopiesAreHeld c trace f.me v.store → Ascends pull_key v.pulls → PullsFact c f trace v.pulls → Stays v (adopts f v)
  adopts_wants v copies rises facts = first_wants v.pulls v (record { copies = copies; rises = rises; left = rises; there = all_there v.pulls v.pulls (λ p m. m); facts = facts })

-- ---- what is pulled ascends still ----

adopted_rises : (f : Frame) (p : Pull) (v : SiteView) → Ascends pull_key v.pulls → Ascends pull_key (adopts_pull f p v).view.pulls
adopted_rises f p v h = subst (Ascends pull_key) (sym (noted_pulls f p (row table_group p.file.group v.tables) (with_adopted p v))) (ascends_left (pull_key p) v.pulls h)

first_rises : (f : Frame) (ps : List Pull) (v : SiteView) → Ascends pull_key v.pulls → Ascends pull_key (adopts_first f ps v).view.pulls
first_rises f [] v h = h
first_rises f (p ∷ ps) v h = over (is_ready v p) (first_rises f ps v h) (first_rises f ps (without_pull p v) (ascends_left (pull_key p) v.pulls h))
  where
    takes : (b : Bool) → Ascends pull_key (adopts_first f ps (without_pull p v)).view.pulls → Ascends pull_key (elim b as (λ (z : Bool). Outcome SiteView) [ true ↦ adopts_pull f p v | false ↦ adopts_first f ps (without_pull p v) ]).view.pulls
    takes true without = adopted_rises f p v h
    takes false without = without

    over : (b : Bool) → Ascends pull_key (adopts_first f ps v).view.pulls → Ascends pull_key (adopts_first f ps (without_pull p v)).view.pulls →
        Ascends pull_key (elim b as (λ (z : Bool). Outcome SiteView) [ true ↦ elim (fits_own p (copy_of v.store p.file)) [ true ↦ adopts_pull f p v | false ↦ adopts_first f ps (without_pull p v) ] | false ↦ adopts_first f ps v ]).view.pulls
    over true later without = takes (fits_own p (copy_of v.store p.file)) without
    over false later without = later

pub adopts_rise : (f : Frame) (v : SiteView) → Ascends pull_key v.pulls → Ascends pull_key (adopts f v).view.pulls
adopts_rise f v h = first_rises f v.pulls v h
