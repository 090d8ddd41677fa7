-- A set of sites as a number whose bit s - 1 stands for site s.
use Rattle.std.specs.Prelude.{ℕ, zero, suc, ◌≡◌, ◌+◌, ◌-◌, ◌^◌, ◌==◌, ◌≤◌, ◌<◌, Bool, true, false, cond, Option, None, Some, bit_and, bit_or}
use Rattle.std.specs.Int.{bit_at}
use Rattle.locus_ids.specs.Sizes.{sites_max, set_span}
use Rattle.locus_ids.specs.declared.sites.Sites.{Sites}

-- the site is in the set
abbrev pub has : Sites → ℕ → Bool
has sites site = bit_at sites.0 (site - 1) == 1

-- the set with the site
abbrev pub with_site : Sites → ℕ → Sites
with_site sites site = record { 0 = bit_or sites.0 (2 ^ (site - 1)) }

-- the set without the site
abbrev pub without_site : Sites → ℕ → Sites
without_site sites site = record { 0 = bit_and sites.0 (set_span - 1 - 2 ^ (site - 1)) }

-- the sites that both sets have
abbrev pub both : Sites → Sites → Sites
both a b = record { 0 = bit_and a.0 b.0 }

-- how many of sites 1 to n are in the set
abbrev pub count_to : Sites → ℕ → ℕ
count_to sites zero = 0
count_to sites (suc n) = count_to sites n + cond (has sites (suc n)) 1 0

-- how many sites are in the set
unfoldable pub count : Sites → ℕ
count sites = count_to sites sites_max

-- the site is the least of the set, or there is none
abbrev pub IsLeast : Sites → Option ℕ → Type 0
IsLeast sites None = (site : ℕ) → 1 ≤ site → site ≤ sites_max → has sites site ≡ false
IsLeast sites (Some least) = (has sites least ≡ true) × ((site : ℕ) → 1 ≤ site → site < least → has sites site ≡ false)
