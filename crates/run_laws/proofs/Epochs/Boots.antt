-- Lists of boot numbers by site, and ids in their order.
use Rattle.std.proofs.Common.{◌≡◌, ℕ, zero, suc, ◌+◌, ◌≤◌, ◌==◌, ◌⊎◌, Bool, true, false, cond, List, [], ◌∷◌, length, map, get_or, nat_le, refl, ◌∙◌, ap, subst, inl, inr, arith, ◌<◌}
use Rattle.std.proofs.lemmas.Bool.Decides.{nat_tests}
use Rattle.locus_ids.specs.declared.ids.EpochId.{EpochId}
use Rattle.locus_ids.specs.Sizes.{sites_max}
use Rattle.the_run.specs.of_role_steps.Views.{boot_in, all_sites}
use Rattle.the_run.specs.of_role_steps.Epochs.{is_epoch_below}
use Rattle.the_run.proofs.of_role_steps.Counted.{CountsFrom, sites_count}
use Rattle.the_run.specs.Joins.{IsAtMost}

-- ---- ids ----

pub at_most_trans : (a b c : EpochId) → IsAtMost a b → IsAtMost b c → IsAtMost a c
at_most_trans a b c h g = grind (arith, nat_tests)

pub below_at_most_itself : (a b : EpochId) → is_epoch_below a b ≡ true → IsAtMost a b
below_at_most_itself a b h = grind (arith, nat_tests)

-- ---- boot numbers by site ----

plus_none : (n : ℕ) → n ≡ n + 0
plus_none n = omega arith

next : (n place : ℕ) → (n + 1) + place ≡ n + suc place
next n place = omega arith

placed : (f : ℕ → ℕ) (n place : ℕ) (xs : List ℕ) → CountsFrom n xs → place + 1 ≤ length xs → get_or (map f xs) place 0 ≡ f (n + place)
placed f n place [] h le = absurd (omega (arith, le))
placed f n zero (x ∷ xs) h le = ap f (h.0 ∙ plus_none n)
placed f n (suc place) (x ∷ xs) h le = subst (λ (k : ℕ). get_or (map f xs) place 0 ≡ f k) (next n place) (placed f (n + 1) place xs h.1 (omega (arith, le)))

beyond : (f : ℕ → ℕ) (place : ℕ) (xs : List ℕ) → length xs ≤ place → get_or (map f xs) place 0 ≡ 0
beyond f place [] h = refl
beyond f zero (x ∷ xs) h = absurd (omega (arith, h))
beyond f (suc place) (x ∷ xs) h = beyond f place xs (omega (arith, h))

one_next : (n : ℕ) → 1 + n ≡ suc n
one_next n = omega arith

-- one of sites 1 to 16 has the boot number that the list was made with
pub boot_there : (f : ℕ → ℕ) (t : ℕ) → 1 ≤ t → t ≤ sites_max → boot_in (map f all_sites) t ≡ f t
boot_there f zero low high = absurd (omega (arith, low))
boot_there f (suc place) low high = subst (λ (k : ℕ). boot_in (map f all_sites) (suc place) ≡ f k) (one_next place) (placed f 1 place all_sites sites_count (omega (arith, high)))

-- any other number has none
pub boot_nowhere : (f : ℕ → ℕ) (t : ℕ) → sites_max < t → boot_in (map f all_sites) t ≡ 0
boot_nowhere f zero h = refl
boot_nowhere f (suc place) h = beyond f place all_sites (omega (arith, h))

pub boot_or_none : (f : ℕ → ℕ) (t : ℕ) → (boot_in (map f all_sites) t ≡ f t) ⊎ (boot_in (map f all_sites) t ≡ 0)
boot_or_none f zero = inr refl
boot_or_none f (suc place) =
    (elim (nat_le (suc place) sites_max) as (λ b. nat_le (suc place) sites_max ≡ b → (boot_in (map f all_sites) (suc place) ≡ f (suc place)) ⊎ (boot_in (map f all_sites) (suc place) ≡ 0)) [
      | true ↦ λ e. inl (boot_there f (suc place) (omega arith) (is_low place e))
      | false ↦ λ e. inr (boot_nowhere f (suc place) (is_high place e))
    ]) refl
  where
    is_low : (place : ℕ) → nat_le (suc place) sites_max ≡ true → suc place ≤ sites_max
    is_low place e = grind (arith, nat_tests)

    is_high : (place : ℕ) → nat_le (suc place) sites_max ≡ false → sites_max < suc place
    is_high place e = grind (arith, nat_tests)

-- what bounds each boot number that a list is made with bounds the list
pub boots_bounded : (f bound : ℕ → ℕ) → ((t : ℕ) → f t ≤ bound t) → (t : ℕ) → boot_in (map f all_sites) t ≤ bound t
boots_bounded f bound h t = by_case (boot_or_none f t)
  where
    by_case : (boot_in (map f all_sites) t ≡ f t) ⊎ (boot_in (map f all_sites) t ≡ 0) → boot_in (map f all_sites) t ≤ bound t
    by_case (inl e) = let k : f t ≤ bound t = h t in omega (arith, e, k)
    by_case (inr e) = omega (arith, e)

-- a site that the list is made without
pub boots_without : (f : ℕ → ℕ) (t : ℕ) → f t ≡ 0 → boot_in (map f all_sites) t ≡ 0
boots_without f t h = by_case (boot_or_none f t)
  where
    by_case : (boot_in (map f all_sites) t ≡ f t) ⊎ (boot_in (map f all_sites) t ≡ 0) → boot_in (map f all_sites) t ≡ 0
    by_case (inl e) = e ∙ h
    by_case (inr e) = e

-- ---- tests ----

pub cond_at_most : (b : Bool) (x y n : ℕ) → x ≤ n → y ≤ n → cond b x y ≤ n
cond_at_most true x y n h g = h
cond_at_most false x y n h g = g
