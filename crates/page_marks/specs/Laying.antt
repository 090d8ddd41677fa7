-- When pages that came may be laid over a content.
use Rattle.std.specs.Prelude.{◌≡◌, ℕ, ◌<◌, ◌≤◌, nat_lt, Bool, true, false, List, length, slice_index}
use Rattle.std.specs.List.{list_all}
use Rattle.file_content.specs.Pages.{pages_of, has_page}
use Rattle.new_contents.specs.declared.laid_pages.LaidPages.{LaidPages}
use Rattle.new_contents.specs.Marked.{is_marked}
use Rattle.role_steps.specs.Pulling.{ascend_from, bytes_in}

-- these are numbers of pages of so many, each above the one before it
pub record AreRising (count : ℕ) (numbers : List ℕ) : Type 0 where
  pub ascend : ascend_from 0 numbers ≡ true
  pub inside : list_all (λ page. nat_lt page count) numbers ≡ true

-- of each page there are the bytes that a version of this size has in it
abbrev pub ArePagesOf : ℕ → List ℕ → List ℕ → Type 0
ArePagesOf size numbers bytes = (k : ℕ) → k < length numbers → bytes_in (length bytes) k ≡ bytes_in size (slice_index numbers k)

-- a content of so many bytes has all bytes of a version of this size in each page that isn't marked
abbrev pub KeepsLength : ℕ → ℕ → List Bool → Type 0
KeepsLength own size marks = (page : ℕ) → page < pages_of size → is_marked marks page ≡ false → bytes_in size page ≤ bytes_in own page

-- These pages may be laid over a content of so many bytes: they are pages of the version, each once, with all their bytes, and any
-- other page is one of the content, which has all of its bytes.
pub record AreLaid (own : ℕ) (came : LaidPages) : Type 0 where
  pub pages : AreRising (pages_of came.size) came.numbers.now
  pub bytes : ArePagesOf came.size came.numbers.now came.bytes.now
  pub kept : (page : ℕ) → page < pages_of came.size → has_page came.numbers.now page ≡ false → bytes_in came.size page ≤ bytes_in own page
