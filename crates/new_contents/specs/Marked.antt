-- A content of which the marked pages are new.
use Rattle.std.specs.Prelude.{ℕ, zero, suc, Bool, true, false, List, [], ◌∷◌, ◌++◌, length, slice_index_or, Option, None, Some}
use Rattle.file_content.specs.Pages.{pages_of}
use Rattle.shadow_pages.specs.Working.{Working}
use Rattle.new_contents.specs.Whole.{full_page}

abbrev pub is_marked : List Bool → ℕ → Bool
is_marked marks i = slice_index_or marks i false

-- a page, if it is marked
abbrev pub page_if : Bool → List ℕ → Option (List ℕ)
page_if true page = Some page
page_if false page = None

-- the first n pages, those that are marked
abbrev pub marked_pages : List ℕ → List Bool → ℕ → List (Option (List ℕ))
marked_pages content marks zero = []
marked_pages content marks (suc n) = marked_pages content marks n ++ page_if (is_marked marks n) (full_page content n) ∷ []

-- a content whose marked pages are new
abbrev pub marked : List ℕ → List Bool → Working
marked content marks = record { size = length content; pages = marked_pages content marks (pages_of (length content)) }
