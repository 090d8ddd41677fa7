-- Lists of numbers that follow one another, as those of all sites are.
use Rattle.std.proofs.Common.{◌≡◌, ℕ, zero, suc, ◌+◌, ◌≤◌, ◌<◌, List, [], ◌∷◌, refl, arith}
use Rattle.locus_ids.specs.Sizes.{sites_max}
use Rattle.call_rules.specs.of_commit_graph.Vectors.{numbers_from}
use Rattle.role_steps.specs.Own.{Every}
use Rattle.role_steps.specs.Views.{all_sites}

-- each number is one more than that before it, from this one on
abbrev pub CountsFrom : ℕ → List ℕ → Type 0
CountsFrom n [] = Unit {0}
CountsFrom n (x ∷ xs) = (x ≡ n) × CountsFrom (n + 1) xs

numbers_count : (first many : ℕ) → CountsFrom first (numbers_from first many)
numbers_count first zero = tt
numbers_count first (suc many) = (refl, numbers_count (first + 1) many)

pub sites_count : CountsFrom 1 all_sites
sites_count = numbers_count 1 sites_max

every_number : (P : ℕ → Type 0) (first many : ℕ) → ((n : ℕ) → first ≤ n → n < first + many → P n) → Every P (numbers_from first many)
every_number P first zero h = tt
every_number P first (suc many) h = (h first (omega arith) (omega arith), every_number P (first + 1) many (λ n low high. h n (omega (arith, low)) (omega (arith, high))))

-- what holds of each site holds of all
pub every_site : (P : ℕ → Type 0) → ((s : ℕ) → 1 ≤ s → s ≤ sites_max → P s) → Every P all_sites
every_site P h = every_number P 1 sites_max (λ s low high. h s low (omega (arith, high)))
