-- What a version changes of the one before.
use Rattle.std.specs.Prelude.{◌≡◌, ◌≢◌, ℕ, ◌<◌, List, length, take, slice_index}
use Rattle.file_content.specs.Pages.{page_of}

-- an unchanged page of the new content: the old one begins so
abbrev pub IsKept : List ℕ → List ℕ → ℕ → Type 0
IsKept old new page = take (length (page_of new page)) (page_of old page) ≡ page_of new page

-- page numbers below this one, each of them once
pub record ArePages (count : ℕ) (changed : List ℕ) : Type 0 where
  pub inside : (i : ℕ) → i < length changed → slice_index changed i < count
  pub distinct : (i j : ℕ) → i < j → j < length changed → slice_index changed i ≢ slice_index changed j
