-- What the view reads where the bytes of a slot stand.
use Rattle.std.specs.Prelude.{ℕ, ◌+◌, ◌*◌, ◌<◌, ◌≡◌, true, List, slice_index}
use Rattle.locus_ids.specs.Sizes.{page_bytes, slot_pages, content_tables_max}
use Rattle.disk_model.specs.Images.{bytes_at}
use Rattle.pack_layout.specs.of_file_content.Pages.{pages_of, tables_of}
use Rattle.pack_layout.specs.declared.slot.Slot.{Slot}
use Rattle.pack_layout.specs.Layout.{layout, slot_bytes, table_at, table_bytes, numbers_under}
use Rattle.pack_layout.specs.SlotFields.{number, fields_in, fields_of}
use Rattle.inode_switch.specs.View.{is_open, turn, size, table}

-- the bytes of an image at a place are those of this slot
abbrev pub Holds : List ℕ → ℕ → Slot → Type 0
Holds image at s = bytes_at image at layout.slot_length ≡ slot_bytes s

-- the slot at a place of an image is open and says what this one does
pub record Says (image : List ℕ) (at : ℕ) (s : Slot) : Type 0 where
  pub open_gate : is_open image at ≡ true
  pub turn : turn image at ≡ s.turn
  pub size : size image at ≡ s.size
  pub fields : fields_in (bytes_at image at layout.slot_length) ≡ fields_of s
  pub pages : (i : ℕ) → i < slot_pages → number image (at + layout.page_numbers_at + layout.number_length * i) ≡ slice_index s.pages i
  pub tables : (k : ℕ) → k < content_tables_max → table image at k ≡ slice_index s.tables k

-- in an area, the tables of a slot hold those of these page numbers that the slot has no room for
abbrev pub HoldsTables : List ℕ → ℕ → Slot → List ℕ → Type 0
HoldsTables image base s numbers = (k : ℕ) → k < tables_of (pages_of s.size) → bytes_at image (table_at base (slice_index s.tables k)) page_bytes ≡ table_bytes (numbers_under numbers k)
