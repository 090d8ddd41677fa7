-- Pages of the base, as they are handed to a write.
use Rattle.std.specs.Prelude.{◌≡◌, ℕ, ◌+◌, ◌*◌, ◌<◌, max, IsTrue, List, [], length, slice_index, slice_index_or, Option, Some, None}
use Rattle.locus_ids.specs.Sizes.{page_bytes}
use denote.Ref.{Bor}
use Rattle.shadow_pages.specs.declared.base_page.BasePage.{BasePage}
use Rattle.shadow_pages.specs.Working.{Working, page_at, touches, IsPageOf, IsZeroFrom}

-- a handed page has the base's bytes, as far as the content goes
abbrev pub IsOf : List ℕ → ℕ → BasePage → Type 0
IsOf base size p = (k : ℕ) → k < page_bytes → page_bytes * p.page + k < size → slice_index p.bytes k ≡ slice_index base (page_bytes * p.page + k)

abbrev pub AreOf : List ℕ → ℕ → List BasePage → Type 0
AreOf base size handed = (j : ℕ) (d : BasePage) → j < length handed → IsOf base size (slice_index_or handed j d)

-- each unchanged page of the content that a write changes is handed to it
abbrev pub Hands : Working → ℕ → ℕ → List BasePage → Type 0
Hands w at len handed = (i : ℕ) → IsTrue (touches w at len i) → page_bytes * i < w.size → page_at w.pages i ≡ None → (j : ℕ) × (j < length handed) × ((d : BasePage) → (slice_index_or handed j d).page ≡ i)

-- pages in a row from page `first`, as a write leaves them over each base that the handed pages are of
pub record AreWritten (w : Working) (at : ℕ) (bytes : List ℕ) (handed : List BasePage) (first : ℕ) (made : List (List ℕ)) : Type 0 where
  pub pages : (base : List ℕ) → AreOf base w.size handed → (j : ℕ) → j < length made → IsPageOf base w at bytes (first + j) (slice_index_or made j [])
  pub zeros : (j : ℕ) → j < length made → IsZeroFrom (max w.size (at + length bytes)) (first + j) (slice_index_or made j [])

-- what a search among the handed pages found: the page's bytes in each base that they are of, or that it isn't among them
abbrev pub Finds : List BasePage → ℕ → Option (Bor (List ℕ)) → Type 0
Finds handed i None = (j : ℕ) (d : BasePage) → j < length handed → (slice_index_or handed j d).page ≡ i → ⊥
Finds handed i (Some found) = (base : List ℕ) (size : ℕ) → AreOf base size handed → (k : ℕ) → k < page_bytes → page_bytes * i + k < size → slice_index found.now k ≡ slice_index base (page_bytes * i + k)
