-- A content that is worked on over a base: the pages that were changed, and for the rest the base.
use Rattle.std.specs.Prelude.{◌≡◌, ℕ, zero, suc, ◌+◌, ◌-◌, ◌*◌, ◌/◌, ◌%◌, ◌<◌, ◌≤◌, min, max, Bool, true, ◌&&◌, nat_lt, nat_le, List, [], ◌∷◌, ◌++◌, length, take, drop, replicate, slice_index, slice_index_or, Some, None, Option, is_none, is_some, if◌then◌else◌}
use Rattle.locus_ids.specs.Sizes.{page_bytes}
use Rattle.file_content.specs.Pages.{pages_of}

-- the size of the content in bytes, and for each page its bytes if it was changed
pub record Working : Type 0 where
  pub size : ℕ
  pub pages : List (Option (List ℕ))

-- page i, if it was changed
abbrev pub page_at : List (Option (List ℕ)) → ℕ → Option (List ℕ)
page_at pages i = slice_index_or pages i None

-- byte k of a page that was changed, else the base's
abbrev pub byte_in : Option (List ℕ) → ℕ → ℕ → ℕ
byte_in (Some page) k old = slice_index page k
byte_in None k old = old

-- byte k of the content
abbrev pub byte_at : List ℕ → Working → ℕ → ℕ
byte_at base w k = byte_in (page_at w.pages (k / page_bytes)) (k % page_bytes) (slice_index base k)

-- f 0 up to f (n - 1)
abbrev pub below : (ℕ → ℕ) → ℕ → List ℕ
below f zero = []
below f (suc n) = below f n ++ f n ∷ []

-- the working content over a base
abbrev pub content : List ℕ → Working → List ℕ
content base w = below (byte_at base w) w.size

-- zeros at the end, up to a length
abbrev pub padded : ℕ → List ℕ → List ℕ
padded n xs = xs ++ replicate (n - length xs) 0

-- overwritten from a place on by some bytes
abbrev pub spliced : ℕ → List ℕ → List ℕ → List ℕ
spliced at bytes xs = take at xs ++ bytes ++ drop (at + length bytes) xs

-- so many of the numbers below n pass a test
abbrev pub count_below : (ℕ → Bool) → ℕ → ℕ
count_below test zero = 0
count_below test (suc n) = count_below test n + (if test n then 1 else 0)

-- page i meets the bytes from one place up to another
abbrev pub meets : ℕ → ℕ → ℕ → Bool
meets from to i = nat_lt (max from (page_bytes * i)) (min to (page_bytes * (i + 1)))

-- a write of so many bytes changes page i: it meets the bytes from the lesser of the write's place and the old size up to its end
abbrev pub touches : Working → ℕ → ℕ → ℕ → Bool
touches w at len i = meets (min at w.size) (at + len) i

-- how many pages a write changes that weren't changed before
abbrev pub needed : Working → ℕ → ℕ → ℕ
needed w at len = count_below (λ i. touches w at len i && is_none (page_at w.pages i)) (pages_of (at + len))

-- how many pages were changed
abbrev pub number_changed : List (Option (List ℕ)) → ℕ
number_changed [] = 0
number_changed (p ∷ ps) = (if is_some p then 1 else 0) + number_changed ps

-- each page that was changed is one of those from `first` up to `stop`
abbrev pub AreAmong : ℕ → ℕ → List (Option (List ℕ)) → Type 0
AreAmong first stop pages = (i : ℕ) → is_some (page_at pages i) ≡ true → (first ≤ i) × (i < stop)

-- a page holds nothing but zeros past the size
abbrev pub IsClean : Working → Type 0
IsClean w = (i k : ℕ) → k < page_bytes → w.size ≤ page_bytes * i + k → byte_in (page_at w.pages i) k 0 ≡ 0

-- byte k after some bytes were written over it, or it stays as it is
abbrev pub over : ℕ → List ℕ → ℕ → ℕ → ℕ
over at bytes k old = if nat_le at k && nat_lt k (at + length bytes) then slice_index bytes (k - at) else old

-- byte k of a content of such a size after some bytes were written at a place, where `old` is what it was
abbrev pub byte_after : ℕ → ℕ → List ℕ → ℕ → ℕ → ℕ
byte_after size at bytes k old = over at bytes k (if nat_lt k size then old else 0)

-- page i after that, from the page before
abbrev pub IsPageAfter : List ℕ → ℕ → ℕ → ℕ → List ℕ → List ℕ → Type 0
IsPageAfter page i size at bytes before = (k : ℕ) → k < page_bytes → slice_index page k ≡ byte_after size at bytes (page_bytes * i + k) (slice_index before k)

-- page i of the content that a write leaves
abbrev pub IsPageOf : List ℕ → Working → ℕ → List ℕ → ℕ → List ℕ → Type 0
IsPageOf base w at bytes i page = (k : ℕ) → k < page_bytes → slice_index page k ≡ byte_after w.size at bytes (page_bytes * i + k) (byte_at base w (page_bytes * i + k))

-- page i holds nothing but zeros from a place on
abbrev pub IsZeroFrom : ℕ → ℕ → List ℕ → Type 0
IsZeroFrom end i page = (k : ℕ) → k < page_bytes → end ≤ page_bytes * i + k → slice_index page k ≡ 0
