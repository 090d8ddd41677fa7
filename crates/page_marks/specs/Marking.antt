-- Which pages of a content are marked as new.
use Rattle.std.specs.Prelude.{◌≡◌, ℕ, Bool, ◌&&◌, nat_lt, List, length}
use Rattle.file_content.specs.Pages.{has_page}
use Rattle.new_contents.specs.of_shadow_pages.Working.{count_below}
use Rattle.new_contents.specs.Marked.{is_marked}
use Rattle.stored_versions.specs.Changes.{ArePages}

-- the marks are those of the changed pages
pub record AreMarks (count : ℕ) (changed : List ℕ) (marks : List Bool) : Type 0 where
  pub pages : ArePages count changed
  pub each : (i : ℕ) → is_marked marks i ≡ has_page changed i
  pub number : count_below (is_marked marks) count ≡ length changed

-- these are the marked ones of the first pages
abbrev pub AreMarked : ℕ → List ℕ → List Bool → Type 0
AreMarked count pages marks = (i : ℕ) → has_page pages i ≡ (nat_lt i count && is_marked marks i)
