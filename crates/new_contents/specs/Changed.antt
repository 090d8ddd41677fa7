-- Which pages of a content are written over the one before it, and where.
use Rattle.std.specs.Prelude.{◌≡◌, ℕ, ◌<◌, ◌≤◌, Bool, true, List, [], ◌∷◌, Option, None, Some, is_some}
use Rattle.file_content.specs.Pages.{pages_of}
use Rattle.shadow_pages.specs.Working.{Working, page_at as shadow_page, count_below}
use Rattle.gate_switch.specs.Switch.{Piece}

-- page i of the shadow is changed
abbrev pub is_changed : Working → ℕ → Bool
is_changed w i = is_some (shadow_page w.pages i)

-- how many pages of its content are changed
abbrev pub needed : Working → ℕ
needed w = count_below (is_changed w) (pages_of w.size)

-- each changed page of a content is one of those from `first` up to `stop`
abbrev pub HasChanged : ℕ → ℕ → Working → Type 0
HasChanged first stop w = (i : ℕ) → i < pages_of w.size → is_changed w i ≡ true → (first ≤ i) × (i < stop)

-- what is written of a page at a place, if it is changed
abbrev pub piece_at : ℕ → Option (List ℕ) → List Piece
piece_at at None = []
piece_at at (Some page) = record { at = at; bytes = page } ∷ []
