-- What an image of a pack stands for: for each inode nothing, or the version of the slot that counts.
use Rattle.std.specs.Prelude.{ℕ, zero, suc, ◌+◌, ◌-◌, ◌*◌, ◌%◌, ◌≤◌, ◌≡◌, ◌≢◌, ◌⊎◌, ◌==◌, Bool, true, false, cond, nat_lt, List, [], ◌++◌, take, slice_index, Option, None, Some}
use Rattle.locus_ids.specs.Sizes.{inodes_max, page_bytes, slot_pages, table_pages}
use Rattle.disk_model.specs.Images.{bytes_at}
use Rattle.pack_layout.specs.of_file_content.Pages.{pages_of, table_of}
use Rattle.pack_layout.specs.declared.half.Half.TheVariants as slot_half
use Rattle.pack_layout.specs.Layout.{layout, open_gate, page_at, slot_at, table_at}
use Rattle.pack_layout.specs.SlotFields.{SlotFields, number, long_number, fields_in}

-- a slot begins with its gate and its turn
abbrev pub is_open : List ℕ → ℕ → Bool
is_open image slot = slice_index image slot == open_gate

abbrev pub turn : List ℕ → ℕ → ℕ
turn image slot = slice_index image (slot + layout.turn_at)

-- the size of the content
abbrev pub size : List ℕ → ℕ → ℕ
size image slot = long_number image (slot + layout.size_at)

-- the number of one of the slot's tables
abbrev pub table : List ℕ → ℕ → ℕ → ℕ
table image slot k = number image (slot + layout.table_numbers_at + layout.number_length * k)

-- where the number of a page stands: that of one of the first in the slot, and else in a table
abbrev pub number_place : List ℕ → ℕ → ℕ → ℕ → ℕ
number_place image base slot i =
    cond (nat_lt i slot_pages) (slot + layout.page_numbers_at + layout.number_length * i) (table_at base (table image slot (table_of i)) + layout.number_length * ((i - slot_pages) % table_pages))

abbrev pub page : List ℕ → ℕ → ℕ → ℕ → ℕ
page image base slot i = number image (number_place image base slot i)

-- the bytes of the first n pages in order
abbrev pub bytes_of : List ℕ → ℕ → ℕ → ℕ → List ℕ
bytes_of image base slot zero = []
bytes_of image base slot (suc n) = bytes_of image base slot n ++ bytes_at image (page_at base (page image base slot n)) page_bytes

-- a version: what its slot says of it, and the content
pub record Version : Type 0 where
  pub fields : SlotFields
  pub content : List ℕ

abbrev pub version : List ℕ → ℕ → ℕ → Version
version image base slot = record {
  fields = fields_in (bytes_at image slot layout.slot_length);
  content = take (size image slot) (bytes_of image base slot (pages_of (size image slot)));
}

-- which of two slots has the turn that follows the other's
pub data Newer : Type 0 where
  Second : Newer
  First : Newer
  Neither : Newer

abbrev pub newer_of : Bool → Bool → Newer
newer_of true after = Second
newer_of false true = First
newer_of false false = Neither

-- the turns 0, 1 and 2 go round
abbrev pub newer : List ℕ → ℕ → ℕ → Newer
newer image first second = newer_of ((turn image first + 1) % 3 == turn image second) ((turn image second + 1) % 3 == turn image first)

-- of two open slots the newer one counts, and none where neither is; a single open one counts
abbrev pub counting : Bool → Bool → Newer → ℕ → ℕ → Option ℕ
counting true true Second first second = Some second
counting true true First first second = Some first
counting true true Neither first second = None
counting true false newer first second = Some first
counting false true newer first second = Some second
counting false false newer first second = None

abbrev pub version_in : List ℕ → ℕ → Option ℕ → Option Version
version_in image base None = None
version_in image base (Some slot) = Some (version image base slot)

-- what an inode has in this image
abbrev pub view : List ℕ → ℕ → ℕ → Option Version
view image base ino =
    let first = slot_at base ino slot_half.First in
    let second = slot_at base ino slot_half.Second in
    version_in image base (counting (is_open image first) (is_open image second) (newer image first second) first second)

-- the view is as it was
abbrev pub SameView : ℕ → List ℕ → List ℕ → Type 0
SameView base old new = (ino : ℕ) → 1 ≤ ino → ino ≤ inodes_max → view new base ino ≡ view old base ino

-- the view is as it was, but this inode has this version
pub record Replaced (base ino : ℕ) (made : Version) (old new : List ℕ) : Type 0 where
  pub others : (other : ℕ) → 1 ≤ other → other ≤ inodes_max → other ≢ ino → view new base other ≡ view old base other
  pub own : view new base ino ≡ Some made

-- wholly old or wholly new
abbrev pub IsOldOrNew : ℕ → ℕ → Version → List ℕ → List ℕ → Type 0
IsOldOrNew base ino made old new = SameView base old new ⊎ Replaced base ino made old new
