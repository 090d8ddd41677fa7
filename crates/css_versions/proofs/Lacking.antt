-- The members that lack a version, place by place of all sites.
use Rattle.std.proofs.Common.{◌≡◌, ℕ, ◌+◌, ◌<◌, ◌≤◌, Bool, true, false, ◌||◌, cond, List, [], ◌∷◌, drop, filter, refl, sym, ap, ◌∙◌}
use Rattle.std.specs.List.{list_any}
use Rattle.locus_ids.specs.Sizes.{sites_max}
use Rattle.role_steps.specs.Views.{all_sites}
use Rattle.role_steps.proofs.Numbers.{next_site, no_site}

or_nothing : (b : Bool) → (b || false) ≡ b
or_nothing true = refl
or_nothing false = refl

either_first : (q p : ℕ → Bool) (s : ℕ) (rest : List ℕ) → list_any q (filter p (s ∷ rest)) ≡ (list_any q (filter p (s ∷ [])) || list_any q (filter p rest))
either_first q p s rest = elim (p s) as (λ b. list_any q (cond b (s ∷ filter p rest) (filter p rest)) ≡ (list_any q (cond b (s ∷ []) []) || list_any q (filter p rest))) [
  | true ↦ ap (λ b. b || list_any q (filter p rest)) (sym (or_nothing (q s)))
  | false ↦ refl
]

at_place : (q p : ℕ → Bool) (place : ℕ) → place < sites_max → list_any q (filter p (drop place all_sites)) ≡ (list_any q (filter p ((place + 1) ∷ [])) || list_any q (filter p (drop (place + 1) all_sites)))
at_place q p place l = ap (λ ss. list_any q (filter p ss)) (next_site place l) ∙ either_first q p (place + 1) (drop (place + 1) all_sites)

-- none lacks it at this place
pub lacked_later : (q p : ℕ → Bool) (place : ℕ) (here whole : Bool) → place < sites_max → here ≡ list_any q (filter p ((place + 1) ∷ [])) → here ≡ false → list_any q (filter p (drop place all_sites)) ≡ whole → list_any q (filter p (drop (place + 1) all_sites)) ≡ whole
lacked_later q p place here whole l e test before =
    let later : list_any q (filter p (drop place all_sites)) ≡ list_any q (filter p (drop (place + 1) all_sites)) =
    at_place q p place l ∙ ap (λ b. b || list_any q (filter p (drop (place + 1) all_sites))) (sym e ∙ test) in
    sym later ∙ before

-- one does
pub lacked_here : (q p : ℕ → Bool) (place : ℕ) (here whole : Bool) → place < sites_max → here ≡ list_any q (filter p ((place + 1) ∷ [])) → here ≡ true → list_any q (filter p (drop place all_sites)) ≡ whole → true ≡ whole
lacked_here q p place here whole l e test before =
    let found : list_any q (filter p (drop place all_sites)) ≡ true =
    at_place q p place l ∙ ap (λ b. b || list_any q (filter p (drop (place + 1) all_sites))) (sym e ∙ test) in
    sym found ∙ before

-- nor at any
pub lacked_nowhere : (q p : ℕ → Bool) (place : ℕ) (whole : Bool) → sites_max ≤ place → list_any q (filter p (drop place all_sites)) ≡ whole → false ≡ whole
lacked_nowhere q p place whole l before = ap (λ ss. list_any q (filter p ss)) (sym (no_site place l)) ∙ before
