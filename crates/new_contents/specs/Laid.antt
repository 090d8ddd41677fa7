-- Pages of a version that are laid over the content before it.
use Rattle.std.specs.Prelude.{ℕ, zero, suc, ◌==◌, cond, Bool, List, [], ◌∷◌, ◌++◌, Option, None, Some, is_some}
use Rattle.std.specs.Option.{option_map}
use Rattle.file_content.specs.Pages.{pages_of}
use Rattle.shadow_pages.specs.Working.{Working}
use Rattle.new_contents.specs.Whole.{full_page}
use Rattle.new_contents.specs.declared.laid_pages.LaidPages.{LaidPages}

-- at which place among these numbers a page stands, from this place on
abbrev pub place_from : ℕ → List ℕ → ℕ → Option ℕ
place_from k [] page = None
place_from k (number ∷ numbers) page = cond (number == page) (Some k) (place_from (suc k) numbers page)

-- the page came
abbrev pub has_come : List ℕ → ℕ → Bool
has_come numbers page = is_some (place_from 0 numbers page)

-- a page that came, if it did, with zeros behind its end
abbrev pub laid_page : List ℕ → List ℕ → ℕ → Option (List ℕ)
laid_page numbers bytes page = option_map (full_page bytes) (place_from 0 numbers page)

-- the first n pages, those that came
abbrev pub laid_pages : List ℕ → List ℕ → ℕ → List (Option (List ℕ))
laid_pages numbers bytes zero = []
laid_pages numbers bytes (suc n) = laid_pages numbers bytes n ++ laid_page numbers bytes n ∷ []

-- a content of this size of which these pages came, in the order of their numbers
abbrev pub laid : ℕ → List ℕ → List ℕ → Working
laid size numbers bytes = record { size = size; pages = laid_pages numbers bytes (pages_of size) }

abbrev pub working_of : LaidPages → Working
working_of came = laid came.size came.numbers.now came.bytes.now
