-- What a commit may write: its closed slot behind the gate, and tables and pages of no slot that is open.
use Rattle.std.specs.Prelude.{ℕ, ◌+◌, ◌%◌, ◌≤◌, ◌<◌, ◌≡◌, true, false, List, length, Option, None, Some, if◌then◌else◌}
use Rattle.locus_ids.specs.Sizes.{inodes_max, page_bytes, content_pages_max}
use Rattle.disk_model.specs.Images.{is_within}
use Rattle.gate_switch.specs.Switch.{Piece}
use Rattle.gate_switch.specs.Switch.{AreWithin, touches, written, opened}
use Rattle.pack_layout.specs.of_file_content.Pages.{pages_of, tables_of}
use Rattle.pack_layout.specs.declared.half.Half.{Half}
use Rattle.pack_layout.specs.Layout.{layout, area_length, slot_at, table_at, page_at, other_half}
use Rattle.inode_switch.specs.View.{is_open, turn, size, table, page, Version, version}

-- none of the pieces meets this slot, its tables or its pages
pub record Spares (base slot : ℕ) (pieces : List Piece) (old : List ℕ) : Type 0 where
  pub few : pages_of (size old slot) ≤ content_pages_max
  pub bytes : (k : ℕ) → k < layout.slot_length → touches pieces (slot + k) ≡ false
  pub tables : (t k : ℕ) → t < tables_of (pages_of (size old slot)) → k < layout.table_length → touches pieces (table_at base (table old slot t) + k) ≡ false
  pub pages : (i k : ℕ) → i < pages_of (size old slot) → k < page_bytes → touches pieces (page_at base (page old base slot i) + k) ≡ false

-- the turn that follows another: 0, 1 and 2 go round
abbrev pub IsNext : ℕ → ℕ → Type 0
IsNext before after = (before ≤ 2) × (after ≡ (before + 1) % 3)

-- The slot to be written is closed; the pieces lie in the area, and meet no gate and no open slot, its tables or its pages; the
-- new slot names no more pages than it and its tables have room for, and its turn follows that of the inode's other slot, where that is open.
pub record MayReplace (base ino : ℕ) (half : Half) (pieces : List Piece) (old : List ℕ) : Type 0 where
  pub area : base + area_length ≤ length old
  pub within : AreWithin pieces (length old)
  pub inside : (k : ℕ) → is_within base area_length k ≡ false → touches pieces k ≡ false
  pub low : 1 ≤ ino
  pub high : ino ≤ inodes_max
  pub shut : is_open old (slot_at base ino half) ≡ false
  pub gates : (i : ℕ) (each : Half) → 1 ≤ i → i ≤ inodes_max → touches pieces (slot_at base i each) ≡ false
  pub spares : (i : ℕ) (each : Half) → 1 ≤ i → i ≤ inodes_max → is_open old (slot_at base i each) ≡ true → Spares base (slot_at base i each) pieces old
  pub few : pages_of (size (written old pieces) (slot_at base ino half)) ≤ content_pages_max
  pub next : is_open old (slot_at base ino (other_half half)) ≡ true → IsNext (turn old (slot_at base ino (other_half half))) (turn (written old pieces) (slot_at base ino half))

-- the bytes once the new slot is open, and the version that it then has
abbrev pub made_bytes : ℕ → ℕ → Half → List Piece → List ℕ → List ℕ
made_bytes base ino half pieces old = opened (slot_at base ino half) (written old pieces)

abbrev pub made_version : ℕ → ℕ → Half → List Piece → List ℕ → Version
made_version base ino half pieces old = version (made_bytes base ino half pieces old) base (slot_at base ino half)

-- the gate that is closed at the end: that of the other slot, where it is open
abbrev pub closing : ℕ → ℕ → Half → List ℕ → Option ℕ
closing base ino half old = if is_open old (slot_at base ino (other_half half)) then Some (slot_at base ino (other_half half)) else None

-- Both slots of the inode are open, and this one loses: the other's turn follows its own. Open slots name no more pages than
-- they and their tables have room for.
pub record Loses (base ino : ℕ) (half : Half) (old : List ℕ) : Type 0 where
  pub area : base + area_length ≤ length old
  pub low : 1 ≤ ino
  pub high : ino ≤ inodes_max
  pub mine : is_open old (slot_at base ino half) ≡ true
  pub other : is_open old (slot_at base ino (other_half half)) ≡ true
  pub next : IsNext (turn old (slot_at base ino half)) (turn old (slot_at base ino (other_half half)))
  pub few : (i : ℕ) (each : Half) → 1 ≤ i → i ≤ inodes_max → is_open old (slot_at base i each) ≡ true → pages_of (size old (slot_at base i each)) ≤ content_pages_max
