-- The sites, place by place: of the numbers from 1 on, k + 1 stands at place k, and behind it stand those above it.
use Rattle.std.proofs.Common.{◌≡◌, ℕ, zero, suc, ◌+◌, ◌-◌, ◌≤◌, ◌<◌, ◌==◌, ◌||◌, nat_lt, true, List, [], ◌∷◌, length, drop, map, get_or, refl, sym, ap, ◌∙◌, arith, drop-cons, drop_of_length-le, inl, inr}
use Rattle.std.specs.List.{list_all, list_any}
use Rattle.std.proofs.lemmas.Bool.Decides.{nat_tests, eqb_tells}
use Rattle.std.proofs.lemmas.List.{get_or-map}
use Rattle.locus_ids.specs.Sizes.{sites_max}
use Rattle.call_rules.specs.of_commit_graph.Vectors.{numbers_from}
use Rattle.role_steps.specs.Views.{all_sites}

-- what is left of so many numbers behind the first k of them
numbers_left : (k first n left : ℕ) → n ≡ k + left → drop k (numbers_from first n) ≡ numbers_from (first + k) left
numbers_left zero first n left e =
    let same : n ≡ left = omega arith in
    let from : first ≡ first + 0 = omega arith in
    ap (λ (m : ℕ). numbers_from first m) same ∙ ap (λ (m : ℕ). numbers_from m left) from
numbers_left (suc k) first zero left e = absurd (omega arith)
numbers_left (suc k) first (suc n) left e =
    let from : (first + 1) + k ≡ first + suc k = omega arith in
    numbers_left k (first + 1) n left (omega arith) ∙ ap (λ (m : ℕ). numbers_from m left) from

number_at : (k first n : ℕ) → k < n → drop k (numbers_from first n) ≡ (first + k) ∷ drop (suc k) (numbers_from first n)
number_at k first zero l = absurd (omega arith)
number_at zero first (suc n) l = let e : first ≡ first + 0 = omega arith in ap (λ (m : ℕ). m ∷ numbers_from (first + 1) n) e
number_at (suc k) first (suc n) l =
    let e : (first + 1) + k ≡ first + suc k = omega arith in
    number_at k (first + 1) n (omega arith) ∙ ap (λ (m : ℕ). m ∷ drop (suc k) (numbers_from (first + 1) n)) e

numbers_above : (low first n : ℕ) → low < first → list_all (λ s. nat_lt low s) (numbers_from first n) ≡ true
numbers_above low first zero h = refl
numbers_above low first (suc n) h =
    let here : nat_lt low first ≡ true = grind (arith, nat_tests) in
    rw here (numbers_above low (first + 1) n (omega arith))

number_listed : (s first n : ℕ) → first ≤ s → s < first + n → list_any (λ i. i == s) (numbers_from first n) ≡ true
number_listed s first zero a b = absurd (omega arith)
number_listed s first (suc n) a b = elim (eqb_tells first s) [
  | inl h ↦ rw (h.0) refl
  | inr h ↦ rw (h.0) (number_listed s (first + 1) n (omega arith) (omega arith))
]

-- at each place stands the site of the next number
pub next_site : (place : ℕ) → place < sites_max → drop place all_sites ≡ (place + 1) ∷ drop (place + 1) all_sites
next_site place l =
    let e : 1 + place ≡ place + 1 = omega arith in
    let f : suc place ≡ place + 1 = omega arith in
    number_at place 1 sites_max l ∙ (ap (λ (m : ℕ). m ∷ drop (suc place) all_sites) e ∙ ap (λ (m : ℕ). (place + 1) ∷ drop m all_sites) f)

-- behind the last place stands none
pub no_site : (place : ℕ) → sites_max ≤ place → drop place all_sites ≡ []
no_site place h = drop_of_length-le all_sites h

-- the sites behind a place are above it
pub above_site : (place : ℕ) → place ≤ sites_max → list_all (λ s. nat_lt place s) (drop place all_sites) ≡ true
above_site place l =
    let left : drop place all_sites ≡ numbers_from (1 + place) (sites_max - place) = numbers_left place 1 sites_max (sites_max - place) (omega arith) in
    rw left (numbers_above place (1 + place) (sites_max - place) (omega arith))

pub listed_site : (s : ℕ) → 1 ≤ s → s ≤ sites_max → list_any (λ i. i == s) all_sites ≡ true
listed_site s a b = number_listed s 1 sites_max a (omega arith)

-- the site at a place
pub site_in : (place : ℕ) → place < sites_max → get_or all_sites place 0 ≡ place + 1
site_in place h =
    let here : drop place all_sites ≡ get_or all_sites place 0 ∷ drop (suc place) all_sites = drop-cons all_sites place 0 h in
    let there : drop place all_sites ≡ (place + 1) ∷ drop (place + 1) all_sites = next_site place h in
    cc

-- what is made of a site stands at its place
pub site_found : (f : ℕ → ℕ) (t : ℕ) → 1 ≤ t → t ≤ sites_max → get_or (map f all_sites) (t - 1) 0 ≡ f t
site_found f t a b =
    let place : t - 1 < sites_max = omega arith in
    let e : (t - 1) + 1 ≡ t = omega arith in
    get_or-map f all_sites (t - 1) 0 0 place ∙ ap f (site_in (t - 1) place ∙ e)
