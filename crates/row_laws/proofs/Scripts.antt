-- The table of armed scripts: one a site.
use Rattle.std.proofs.Common.{◌≡◌, ◌≢◌, ◌<◌, ℕ, ◌==◌, nat_lt, Bool, true, false, List, [], ◌∷◌, Option, Some, None, refl, sym, ◌∙◌, ap, arith}
use Rattle.std.proofs.lemmas.Bool.Decides.{nat_tests}
use Rattle.role_steps.proofs.of_plain_facts.Numbers.{apart_test, equal, less}
use Rattle.role_steps.specs.Own.{Every}
use Rattle.role_steps.specs.Tables.{row, with_row, without_row}
use Rattle.role_steps.proofs.Rows.{row_other, row_same}
use Rattle.site_laws.specs.of_the_run.Disks.{Armed as Script}
use Rattle.site_laws.specs.of_the_run.Worlds.{World, armed_site, script_of, arms}
use Rattle.site_laws.proofs.of_the_run.Boots.{every_weaker}
use Rattle.site_laws.proofs.of_the_run.InsideSync.{every_row, every_without}
use Rattle.row_laws.specs.Arms.{Rises}

not_above : (a s : ℕ) → s < a → (a == s) ≡ true → ⊥
not_above a s h e = grind (arith, nat_tests)

rest_above : (a s y : ℕ) → (a == s) ≡ true → a < y → s < y
rest_above a s y e h = grind (arith, nat_tests)

is_above : (y a : ℕ) → nat_lt y a ≡ false → (y == a) ≡ false → a < y
is_above y a e f = grind (arith, nat_tests)

past_it : (y a z : ℕ) → nat_lt y a ≡ false → y < z → a < z
past_it y a z e h = grind (arith, nat_tests)

none_above : (s : ℕ) (xs : List Script) → Every (λ (y : Script). s < armed_site y) xs → row armed_site s xs ≡ None
none_above s [] h = refl
none_above s (x ∷ xs) h = (elim (armed_site x == s) as (λ b. (armed_site x == s) ≡ b → ◌≡◌ {A = Option Script} (elim b [ true ↦ Some x | false ↦ row armed_site s xs ]) None) [
  | true ↦ λ e. absurd (not_above (armed_site x) s h.0 e)
  | false ↦ λ e. none_above s xs h.1
]) refl

pub gone_script : (s : ℕ) (xs : List Script) → Rises xs → row armed_site s (without_row armed_site s xs) ≡ None
gone_script s [] h = refl
gone_script s (x ∷ xs) h = (elim (armed_site x == s) as (λ b. (armed_site x == s) ≡ b → row armed_site s (elim b [ true ↦ xs | false ↦ x ∷ without_row armed_site s xs ]) ≡ None) [
  | true ↦ λ e. none_above s xs (every_weaker (λ (y : Script). armed_site x < armed_site y) (λ (y : Script). s < armed_site y) xs (λ y. rest_above (armed_site x) s (armed_site y) e) h.0)
  | false ↦ λ e. ap (λ (b : Bool). elim b [ true ↦ Some x | false ↦ row armed_site s (without_row armed_site s xs) ]) e ∙ gone_script s xs h.1
]) refl

pub other_script : (s t : ℕ) (xs : List Script) → s ≢ t → row armed_site t (without_row armed_site s xs) ≡ row armed_site t xs
other_script s t [] ne = refl
other_script s t (x ∷ xs) ne = (elim (armed_site x == s) as (λ b. (armed_site x == s) ≡ b → row armed_site t (elim b [ true ↦ xs | false ↦ x ∷ without_row armed_site s xs ]) ≡ row armed_site t (x ∷ xs)) [
  | true ↦ λ e. sym (ap (λ (b : Bool). elim b [ true ↦ Some x | false ↦ row armed_site t xs ]) (apart_test (armed_site x) t (λ f. ne (sym (equal (armed_site x) s e) ∙ f))))
  | false ↦ λ e. ap (λ (o : Option Script). elim (armed_site x == t) [ true ↦ Some x | false ↦ o ]) (other_script s t xs ne)
]) refl

pub rises_with : (a : Script) (xs : List Script) → Rises xs → Rises (with_row armed_site a xs)
rises_with a [] h = (tt, tt)
rises_with a (y ∷ ys) h =
    (elim (nat_lt (armed_site y) (armed_site a)) as (λ b. nat_lt (armed_site y) (armed_site a) ≡ b → Rises (elim b [ true ↦ y ∷ with_row armed_site a ys | false ↦ elim (armed_site y == armed_site a) [ true ↦ a ∷ ys | false ↦ a ∷ y ∷ ys ] ])) [
      | true ↦ λ e. (every_row (λ (z : Script). armed_site y < armed_site z) armed_site a ys (less (armed_site y) (armed_site a) e) h.0, rises_with a ys h.1)
      | false ↦ λ e. (elim (armed_site y == armed_site a) as (λ b. (armed_site y == armed_site a) ≡ b → Rises (elim b [ true ↦ a ∷ ys | false ↦ a ∷ y ∷ ys ])) [
        | true ↦ λ f. (every_weaker (λ (z : Script). armed_site y < armed_site z) (λ (z : Script). armed_site a < armed_site z) ys (λ z. rest_above (armed_site y) (armed_site a) (armed_site z) f) h.0, h.1)
        | false ↦ λ f. ((is_above (armed_site y) (armed_site a) e f, every_weaker (λ (z : Script). armed_site y < armed_site z) (λ (z : Script). armed_site a < armed_site z) ys (λ z. past_it (armed_site y) (armed_site a) (armed_site z) e) h.0), h)
      ]) refl
    ]) refl

pub rises_without : (s : ℕ) (xs : List Script) → Rises xs → Rises (without_row armed_site s xs)
rises_without s [] h = tt
rises_without s (x ∷ xs) h = elim (armed_site x == s) as (λ b. Rises (elim b [ true ↦ xs | false ↦ x ∷ without_row armed_site s xs ])) [ true ↦ h.1 | false ↦ (every_without (λ (y : Script). armed_site x < armed_site y) armed_site s xs h.0, rises_without s xs h.1) ]

pub armed_here : (a : Script) (w : World) → script_of (arms a w) (armed_site a) ≡ Some a
armed_here a w = row_same armed_site a w.armed

pub armed_other : (a : Script) (t : ℕ) (w : World) → armed_site a ≢ t → script_of (arms a w) t ≡ script_of w t
armed_other a t w ne = row_other armed_site a t w.armed (apart_test (armed_site a) t ne)

no_script : (a : Script) → ◌≡◌ {A = Option Script} None (Some a) → ⊥
no_script a e = cc

some_script : (x a : Script) → ◌≡◌ {A = Option Script} (Some x) (Some a) → x ≡ a
some_script x a e = cc

-- a script is found under its own site
pub script_site : (s : ℕ) (xs : List Script) (a : Script) → row armed_site s xs ≡ Some a → armed_site a ≡ s
script_site s [] a e = absurd (no_script a e)
script_site s (x ∷ xs) a e = (elim (armed_site x == s) as (λ b. (armed_site x == s) ≡ b → elim b [ true ↦ Some x | false ↦ row armed_site s xs ] ≡ Some a → armed_site a ≡ s) [
  | true ↦ λ t f. ap armed_site (sym (some_script x a f)) ∙ equal (armed_site x) s t
  | false ↦ λ t f. script_site s xs a f
]) refl e
