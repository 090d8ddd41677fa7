-- The choice among pulls, pull by pull.
use Rattle.std.proofs.Common.{◌≡◌, ◌<◌, ◌+◌, ◌-◌, cond, true, false, Bool, ℕ, zero, suc, List, [], ◌∷◌, length, drop, Option, Some, refl, sym, ap, ◌∙◌, subst, arith, slice_get, add-one}
use Rattle.role_steps.proofs.of_plain_facts.Numbers.{differ_test, same_test}
use Rattle.keyed_tables.specs.Rising.{Above, Rising}
use Rattle.role_steps.specs.Tables.{row, without_row}
use Rattle.role_steps.specs.Views.{Frame, SiteView, Outcome, file_key}
use Rattle.role_steps.specs.Storage.{copy_of}
use Rattle.role_steps.specs.Pulling.{pull_key}
use Rattle.role_steps.specs.Adoption.{is_ready, fits_own, adopts, adopts_first, adopts_pull, without_pull}
use Rattle.role_steps.specs.declared.pulls.Pull.{Pull}
use Rattle.propagation.proofs.Sizes.{gone, left, found, other}
use Rattle.propagation.specs.Choosing.{Choice, chooses, without_chosen, LooksAt, adopted_of, adopts_by}
use Rattle.propagation.specs.declared.adopting.Verdict.TheVariants as verdict
use Rattle.propagation.specs.declared.adopting.Look.{Look}

some_pull : (a b : Pull) → ◌≡◌ {A = Option Pull} (Some a) (Some b) → a ≡ b
some_pull a b e = cc

above_at : (m : ℕ) (xs : List Pull) (i : ℕ) (p : Pull) → Above pull_key m xs → slice_get xs i ≡ Some p → m < pull_key p
above_at m [] i p h e = absurd (cc)
above_at m (x ∷ xs) zero p h e = subst (λ (q : Pull). m < pull_key q) (some_pull x p e) h.0
above_at m (x ∷ xs) (suc i) p h e = above_at m xs i p h.1 e

-- without the pull at a place, those after it stand there
pub drop_gone : (xs : List Pull) (i : ℕ) (p : Pull) → Rising pull_key xs → slice_get xs i ≡ Some p → drop i (without_row pull_key (pull_key p) xs) ≡ drop (suc i) xs
drop_gone [] i p r e = absurd (cc)
drop_gone (x ∷ xs) zero p r e = gone (pull_key p) x xs (same_test (pull_key x) (pull_key p) (ap pull_key (some_pull x p e)))
drop_gone (x ∷ xs) (suc i) p r e =
    let less : pull_key x < pull_key p = above_at (pull_key x) xs i p r.0 e in
    ap (drop (suc i)) (left (pull_key p) x xs (differ_test (pull_key x) (pull_key p) (omega arith))) ∙ drop_gone xs i p r.1 e

pub fewer_gone : (xs : List Pull) (i : ℕ) (p : Pull) → Rising pull_key xs → slice_get xs i ≡ Some p → length (without_row pull_key (pull_key p) xs) < length xs
fewer_gone [] i p r e = absurd (cc)
fewer_gone (x ∷ xs) zero p r e = rw (gone (pull_key p) x xs (same_test (pull_key x) (pull_key p) (ap pull_key (some_pull x p e)))) (omega arith)
fewer_gone (x ∷ xs) (suc i) p r e =
    let less : pull_key x < pull_key p = above_at (pull_key x) xs i p r.0 e in
    let rest : length (without_row pull_key (pull_key p) xs) < length xs = fewer_gone xs i p r.1 e in
    rw (left (pull_key p) x xs (differ_test (pull_key x) (pull_key p) (omega arith))) (omega arith)

pub row_found : (xs : List Pull) (i : ℕ) (p : Pull) → Rising pull_key xs → slice_get xs i ≡ Some p → row pull_key (pull_key p) xs ≡ Some p
row_found [] i p r e = absurd (cc)
row_found (x ∷ xs) zero p r e = found (pull_key p) x xs (same_test (pull_key x) (pull_key p) (ap pull_key (some_pull x p e))) ∙ e
row_found (x ∷ xs) (suc i) p r e =
    let less : pull_key x < pull_key p = above_at (pull_key x) xs i p r.0 e in
    other (pull_key p) x xs (differ_test (pull_key x) (pull_key p) (omega arith)) ∙ row_found xs i p r.1 e

drop_at : (xs : List Pull) (i : ℕ) (p : Pull) → slice_get xs i ≡ Some p → drop i xs ≡ p ∷ drop (suc i) xs
drop_at [] i p e = absurd (cc)
drop_at (x ∷ xs) zero p e = ap (λ (q : Pull). q ∷ xs) (some_pull x p e)
drop_at (x ∷ xs) (suc i) p e = drop_at xs i p e

ready_first : (f : Frame) (p : Pull) (ps : List Pull) (v : SiteView) → is_ready v p ≡ true → fits_own p (copy_of v.store p.file) ≡ true → adopts_first f (p ∷ ps) v ≡ adopts_pull f p v
ready_first f p ps v e g = rw (e, adopts_first) (rw (g, adopts_first) refl)

stale_first : (f : Frame) (p : Pull) (ps : List Pull) (v : SiteView) → is_ready v p ≡ true → fits_own p (copy_of v.store p.file) ≡ false → adopts_first f (p ∷ ps) v ≡ adopts_first f ps (without_pull p v)
stale_first f p ps v e g = rw (e, adopts_first) (rw (g, adopts_first) refl)

waits_first : (f : Frame) (p : Pull) (ps : List Pull) (v : SiteView) → is_ready v p ≡ false → adopts_first f (p ∷ ps) v ≡ adopts_first f ps v
waits_first f p ps v e = rw (e, adopts_first) refl

abbrev chosen_in : Frame → List Pull → SiteView → Outcome SiteView
chosen_in f ps v =
    let c : Choice = chooses (is_ready v) (λ p. fits_own p (copy_of v.store p.file)) ps v.pulls in
    adopted_of f (record v { pulls = c.pulls }) c.chosen

abbrev with_choice : Frame → SiteView → Choice → Outcome SiteView
with_choice f v c = adopted_of f (record v { pulls = c.pulls }) c.chosen

first_chosen : (f : Frame) (ps : List Pull) (v : SiteView) → adopts_first f ps v ≡ chosen_in f ps v
first_chosen f [] v = refl
first_chosen f (p ∷ ps) v = by_case (is_ready v p) (fits_own p (copy_of v.store p.file)) refl refl (first_chosen f ps v) (first_chosen f ps (without_pull p v)) where
  here : Bool → Bool → Choice
  here a b = cond a (cond b (record { pulls = v.pulls; chosen = Some p }) (chooses (is_ready v) (λ q. fits_own q (copy_of v.store q.file)) ps (without_row pull_key (pull_key p) v.pulls))) (chooses (is_ready v) (λ q. fits_own q (copy_of v.store q.file)) ps v.pulls)

  by_case : (a b : Bool) → is_ready v p ≡ a → fits_own p (copy_of v.store p.file) ≡ b → adopts_first f ps v ≡ chosen_in f ps v → adopts_first f ps (without_pull p v) ≡ chosen_in f ps (without_pull p v) → adopts_first f (p ∷ ps) v ≡ chosen_in f (p ∷ ps) v
  by_case true true e g r s = ready_first f p ps v e g ∙ sym (ap (λ (a : Bool). with_choice f v (here a (fits_own p (copy_of v.store p.file)))) e ∙ ap (λ (b : Bool). with_choice f v (here true b)) g)
  by_case true false e g r s = stale_first f p ps v e g ∙ (s ∙ sym (ap (λ (a : Bool). with_choice f v (here a (fits_own p (copy_of v.store p.file)))) e ∙ ap (λ (b : Bool). with_choice f v (here true b)) g))
  by_case false b e g r s = waits_first f p ps v e ∙ (r ∙ sym (ap (λ (a : Bool). with_choice f v (here a (fits_own p (copy_of v.store p.file)))) e))

pub adoption_chosen : (f : Frame) (v : SiteView) → adopts f v ≡ adopts_by f v
adoption_chosen f v = first_chosen f v.pulls v

-- ---- the search through the pulls, one at a time ----

waits : (a b : Bool) → cond a (cond b verdict.Adopt verdict.Drop) verdict.Wait ≡ verdict.Wait → a ≡ false
waits true true e = absurd (cc)
waits true false e = absurd (cc)
waits false b e = refl

drops : (a b : Bool) → cond a (cond b verdict.Adopt verdict.Drop) verdict.Wait ≡ verdict.Drop → (a ≡ true) × (b ≡ false)
drops true true e = absurd (cc)
drops true false e = (refl, refl)
drops false b e = absurd (cc)

adopts_it : (a b : Bool) → cond a (cond b verdict.Adopt verdict.Drop) verdict.Wait ≡ verdict.Adopt → (a ≡ true) × (b ≡ true)
adopts_it true true e = (refl, refl)
adopts_it true false e = absurd (cc)
adopts_it false b e = absurd (cc)

abbrev chosen_at : (ready above : Pull → Bool) → Pull → List Pull → List Pull → Bool → Bool → Choice
chosen_at ready above p ps xs a b = cond a (cond b (record { pulls = xs; chosen = Some p }) (chooses ready above ps (without_row pull_key (pull_key p) xs))) (chooses ready above ps xs)

at_place : (ready above : Pull → Bool) (xs : List Pull) (i : ℕ) (p : Pull) → slice_get xs i ≡ Some p → chooses ready above (drop i xs) xs ≡ chosen_at ready above p (drop (suc i) xs) xs (ready p) (above p)
at_place ready above xs i p e = ap (λ (ps : List Pull). chooses ready above ps xs) (drop_at xs i p e)

pub wait_next : (ready above : Pull → Bool) (xs : List Pull) (i : ℕ) (look : Look) (c : Choice) → LooksAt ready above xs i look → look.verdict ≡ verdict.Wait → chooses ready above (drop i xs) xs ≡ c → chooses ready above (drop (i + 1) xs) xs ≡ c
wait_next ready above xs i look c h w e =
    let no : ready h.pull ≡ false = waits (ready h.pull) (above h.pull) (sym h.verdict ∙ w) in
    ap (λ (n : ℕ). chooses ready above (drop n xs) xs) (add-one i)
    ∙ (sym (at_place ready above xs i h.pull h.stands ∙ ap (λ (a : Bool). chosen_at ready above h.pull (drop (suc i) xs) xs a (above h.pull)) no) ∙ e)

pub drop_next : (ready above : Pull → Bool) (xs ys : List Pull) (i : ℕ) (look : Look) (c : Choice) → LooksAt ready above xs i look → look.verdict ≡ verdict.Drop → ys ≡ without_row pull_key (file_key look.file) xs → chooses ready above (drop i xs) xs ≡ c → chooses ready above (drop i ys) ys ≡ c
drop_next ready above xs ys i look c h w y e =
    let stale = drops (ready h.pull) (above h.pull) (sym h.verdict ∙ w) in
    let key : file_key look.file ≡ pull_key h.pull = ap file_key h.file in
    let same : ys ≡ without_row pull_key (pull_key h.pull) xs = y ∙ ap (λ (k : ℕ). without_row pull_key k xs) key in
    subst (λ (zs : List Pull). chooses ready above (drop i zs) zs ≡ c) (sym same)
    (ap (λ (ps : List Pull). chooses ready above ps (without_row pull_key (pull_key h.pull) xs)) (drop_gone xs i h.pull h.rising h.stands)
    ∙ (sym (at_place ready above xs i h.pull h.stands ∙ (ap (λ (a : Bool). chosen_at ready above h.pull (drop (suc i) xs) xs a (above h.pull)) stale.0 ∙ ap (λ (b : Bool). chosen_at ready above h.pull (drop (suc i) xs) xs true b) stale.1)) ∙ e))

pub drop_fewer : (ready above : Pull → Bool) (xs ys : List Pull) (i : ℕ) (look : Look) → LooksAt ready above xs i look → ys ≡ without_row pull_key (file_key look.file) xs → i < length xs → length ys - i < length xs - i
drop_fewer ready above xs ys i look h y l =
    let key : file_key look.file ≡ pull_key h.pull = ap file_key h.file in
    let same : ys ≡ without_row pull_key (pull_key h.pull) xs = y ∙ ap (λ (k : ℕ). without_row pull_key k xs) key in
    let fewer : length (without_row pull_key (pull_key h.pull) xs) < length xs = fewer_gone xs i h.pull h.rising h.stands in
    let long : length ys ≡ length (without_row pull_key (pull_key h.pull) xs) = ap length same in
    omega arith

pub adopt_now : (ready above : Pull → Bool) (xs ys : List Pull) (i : ℕ) (look : Look) (c : Choice) (taken : Option Pull) → LooksAt ready above xs i look → look.verdict ≡ verdict.Adopt → taken ≡ row pull_key (file_key look.file) xs → ys ≡ without_row pull_key (file_key look.file) xs → chooses ready above (drop i xs) xs ≡ c → (taken ≡ c.chosen) × (ys ≡ without_chosen c)
adopt_now ready above xs ys i look c taken h w t y e =
    let good = adopts_it (ready h.pull) (above h.pull) (sym h.verdict ∙ w) in
    let key : file_key look.file ≡ pull_key h.pull = ap file_key h.file in
    let this : c ≡ record { pulls = xs; chosen = Some h.pull } = sym e ∙ (at_place ready above xs i h.pull h.stands ∙ (ap (λ (a : Bool). chosen_at ready above h.pull (drop (suc i) xs) xs a (above h.pull)) good.0 ∙ ap (λ (b : Bool). chosen_at ready above h.pull (drop (suc i) xs) xs true b) good.1)) in (
      t ∙ (ap (λ (k : ℕ). row pull_key k xs) key ∙ (row_found xs i h.pull h.rising h.stands ∙ sym (ap (λ (d : Choice). d.chosen) this))),
      y ∙ (ap (λ (k : ℕ). without_row pull_key k xs) key ∙ sym (ap without_chosen this)),
    )
