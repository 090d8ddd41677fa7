-- Where everything of a disk stands, and what a slot is.
use Rattle.std.specs.Prelude.{◌≡◌, ◌≢◌, ℕ, ◌+◌, ◌-◌, ◌*◌, ◌%◌, ◌<◌, ◌≤◌, ◌==◌, Bool, List, ◌∷◌, ◌++◌, length, take, drop, min, replicate, slice_index, Option, Some, None, if◌then◌else◌}
use Rattle.std.specs.Int.{w16, w32, to_be_bytes}
use Rattle.std.specs.List.{flat_map}
use Rattle.locus_ids.specs.Sizes.{inodes_max, content_bytes_max, page_bytes, content_pages_max, slot_pages, table_pages, content_tables_max, pack_tables, pack_pages, set_span}
use Rattle.locus_ids.specs.declared.ids.Kind.{Kind}
use Rattle.locus_ids.specs.declared.ids.Kind.TheVariants.{File, Dir}
use Rattle.stored_versions.specs.of_file_content.Pages.{pages_of, tables_of}
use Rattle.stored_versions.specs.Versions.{AgreesWith, IsStamp}
use Rattle.pack_layout.specs.declared.half.Half.{Half}
use Rattle.pack_layout.specs.declared.half.Half.TheVariants.{First, Second}
use Rattle.pack_layout.specs.declared.slot.Slot.{Slot}

-- Where everything stands, and how long it is, in bytes: each number said once. Code has the same numbers in src/layout.rt.
pub record Layout : Type 0 where
  -- of a disk: its label stands first, and the areas of packs follow it
  pub label_length : ℕ
  pub area_length : ℕ
  -- of an area: first the superblock, which names the pack, then two slots for each inode, with room for more of them, then the
  -- tables of page numbers, then the data pages
  pub superblock_length : ℕ
  pub slots_at : ℕ
  pub slots_length : ℕ
  pub slot_length : ℕ
  pub tables_at : ℕ
  pub table_length : ℕ
  pub pages_at : ℕ
  -- of a slot: its gate stands first, then its fields, and zeros behind them
  pub turn_at : ℕ
  pub kind_at : ℕ
  pub ino_at : ℕ
  pub set_at : ℕ
  pub size_at : ℕ
  pub site_at : ℕ
  pub stamp_number_at : ℕ
  pub vector_at : ℕ
  pub page_numbers_at : ℕ
  pub table_numbers_at : ℕ
  pub rest_at : ℕ
  pub rest_length : ℕ
  -- the number of a page or of a table, and a counter of a vector
  pub number_length : ℕ
  pub counter_length : ℕ

abbrev pub layout : Layout
layout = record {
  label_length = 1024;
  area_length = 5309440;
  superblock_length = 1024;
  slots_at = 1024;
  slots_length = 2097152;
  slot_length = 512;
  tables_at = 2098176;
  table_length = 1024;
  pages_at = 2163712;
  turn_at = 1;
  kind_at = 2;
  ino_at = 3;
  set_at = 5;
  size_at = 7;
  site_at = 11;
  stamp_number_at = 12;
  vector_at = 16;
  page_numbers_at = 80;
  table_numbers_at = 200;
  rest_at = 204;
  rest_length = 308;
  number_length = 2;
  counter_length = 4;
}

abbrev pub area_length : ℕ
area_length = layout.area_length

-- the areas of packs follow the label
abbrev pub area_at : ℕ → ℕ
area_at nth = layout.label_length + area_length * nth

-- of an inode's two slots the second one stands behind the first
abbrev pub half_number : Half → ℕ
half_number First = 0
half_number Second = 1

abbrev pub other_half : Half → Half
other_half First = Second
other_half Second = First

-- each inode from 1 on has two slots, one behind the other
abbrev pub slot_at : ℕ → ℕ → Half → ℕ
slot_at base ino half = base + layout.slots_at + 2 * layout.slot_length * (ino - 1) + layout.slot_length * half_number half

abbrev pub tables_at : ℕ
tables_at = layout.tables_at

abbrev pub table_at : ℕ → ℕ → ℕ
table_at base table = base + tables_at + layout.table_length * table

abbrev pub page_at : ℕ → ℕ → ℕ
page_at base page = base + layout.pages_at + page_bytes * page

-- the byte that begins a slot which counts
abbrev pub open_gate : ℕ
open_gate = 165

abbrev pub kind_number : Kind → ℕ
kind_number File = 1
kind_number Dir = 2

-- the bytes of a slot with an open gate, numbers with their greater bytes first
abbrev pub slot_bytes : Slot → List ℕ
slot_bytes s =
    open_gate ∷ s.turn ∷ kind_number s.kind ∷ (to_be_bytes w16 s.ino ++ (to_be_bytes w16 s.set.0 ++ (to_be_bytes w32 s.size ++ (s.stamp.site ∷ (to_be_bytes w32 s.stamp.n
    ++ (flat_map (to_be_bytes w32) s.vector ++ (flat_map (to_be_bytes w16) s.pages ++ (flat_map (to_be_bytes w16) s.tables ++ replicate layout.rest_length 0))))))))

-- the number that names nothing
abbrev pub none : ℕ
none = 65535

-- so many numbers (`most`): the first n are different ones below a limit, and the others name nothing
pub record NameApart (most limit n : ℕ) (numbers : List ℕ) : Type 0 where
  pub count : length numbers ≡ most
  pub inside : (i : ℕ) → i < n → slice_index numbers i < limit
  pub distinct : (i j : ℕ) → i < j → j < n → slice_index numbers i ≢ slice_index numbers j
  pub rest : (i : ℕ) → n ≤ i → i < most → slice_index numbers i ≡ none

-- the page numbers of a content of n pages: different pages of the area
abbrev pub NamePages : ℕ → List ℕ → Type 0
NamePages n pages = NameApart content_pages_max pack_pages n pages

-- the numbers of all pages that a content may have: those of its slot, then those of its tables, and none behind these
abbrev pub numbers_of : List ℕ → List ℕ → List ℕ
numbers_of first more = first ++ (more ++ replicate (content_tables_max * table_pages - length more) none)

-- the page numbers under a table, and its bytes
abbrev pub numbers_under : List ℕ → ℕ → List ℕ
numbers_under numbers table = take table_pages (drop (slot_pages + table_pages * table) numbers)

abbrev pub table_bytes : List ℕ → List ℕ
table_bytes numbers = flat_map (to_be_bytes w16) numbers

-- A slot that may stand on a disk. It names the first pages of its content, and the tables that name the others.
pub record IsSlot (s : Slot) : Type 0 where
  pub turn : s.turn ≤ 2
  pub low : 1 ≤ s.ino
  pub high : s.ino ≤ inodes_max
  pub some : 1 ≤ s.set.0
  pub sites : s.set.0 < set_span
  pub size : s.size ≤ content_bytes_max
  pub stamp : IsStamp s.stamp
  pub vector : AgreesWith s.stamp s.vector
  pub pages : NameApart slot_pages pack_pages (min (pages_of s.size) slot_pages) s.pages
  pub tables : NameApart content_tables_max pack_tables (tables_of (pages_of s.size)) s.tables

-- the turns 0, 1 and 2 go round: whether the second follows the first, or none if they are equal
abbrev pub newer : ℕ → ℕ → Option Bool
newer a b = if a == b then None else Some ((a + 1) % 3 == b)
