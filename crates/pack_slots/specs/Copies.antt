-- The copies of a pack's inodes, the data pages that they name, and which bytes of a disk say them.
use Rattle.std.specs.Prelude.{◌≡◌, ℕ, zero, suc, ◌+◌, ◌-◌, ◌<◌, ◌≤◌, ◌==◌, false, List, [], ◌∷◌, ◌++◌, length, take, replicate, codes, slice_index, slice_index_or, Option, None, Some, IfSome, if◌then◌else◌}
use Rattle.std.specs.List.{flat_map}
use Rattle.locus_ids.specs.Sizes.{inodes_max, pack_pages}
use Rattle.disk_model.specs.Images.{bytes_at}
use Rattle.pack_layout.specs.of_file_content.Pages.{pages_of, tables_of}
use Rattle.pack_layout.specs.declared.half.Half.{Half}
use Rattle.pack_layout.specs.Layout.{layout, slot_at, slot_bytes, numbers_of, NamePages, IsSlot, other_half}
use Rattle.inode_switch.specs.View.{is_open}
use Rattle.inode_switch.specs.Slots.{HoldsTables}
use Rattle.pack_slots.specs.declared.inode_copy.InodeCopy.{InodeCopy}

-- the copy of an inode; a number that is no inode has none
abbrev pub copy_of : List (Option InodeCopy) → ℕ → Option InodeCopy
copy_of copies zero = None
copy_of copies (suc i) = slice_index_or copies i None

-- the page numbers of a copy: those of its slot and those under its tables
abbrev pub numbers_in : InodeCopy → List ℕ
numbers_in copy = numbers_of copy.slot.pages copy.more

-- the data pages of a copy, in the order of its content
abbrev pub pages_in : Option InodeCopy → List ℕ
pages_in None = []
pages_in (Some copy) = take (pages_of copy.slot.size) (numbers_in copy)

-- its tables
abbrev pub tables_in : Option InodeCopy → List ℕ
tables_in None = []
tables_in (Some copy) = take (tables_of (pages_of copy.slot.size)) copy.slot.tables

-- the data pages of all copies
abbrev pub named_pages : List (Option InodeCopy) → List ℕ
named_pages copies = flat_map pages_in copies

-- the tables of all copies
abbrev pub named_tables : List (Option InodeCopy) → List ℕ
named_tables copies = flat_map tables_in copies

-- how often a page or a table is among these
abbrev pub times : ℕ → List ℕ → ℕ
times page [] = 0
times page (one ∷ pages) = (if one == page then 1 else 0) + times page pages

-- one of the two slots of this inode
pub record IsSlotOf (ino : ℕ) (copy : InodeCopy) : Type 0 where
  pub slot : IsSlot copy.slot
  pub own : copy.slot.ino ≡ ino

-- a copy of this inode: one of its slots, which names different pages with its tables
pub record IsCopy (ino : ℕ) (copy : InodeCopy) : Type 0 where
  pub slot : IsSlot copy.slot
  pub own : copy.slot.ino ≡ ino
  pub pages : NamePages (pages_of copy.slot.size) (numbers_in copy)

-- the copies of all inodes, no two of which share a data page or a table
pub record AreCopies (copies : List (Option InodeCopy)) : Type 0 where
  pub count : length copies ≡ inodes_max
  pub own : (ino : ℕ) → IfSome (copy_of copies ino) (λ copy. IsCopy ino copy)
  pub apart : (page : ℕ) → times page (named_pages copies) ≤ 1
  pub tables : (table : ℕ) → times table (named_tables copies) ≤ 1

-- how often each of the data pages is named, and how many are free
pub record AreUses (copies : List (Option InodeCopy)) (uses : List ℕ) (free : ℕ) : Type 0 where
  pub count : length uses ≡ pack_pages
  pub each : (page : ℕ) → page < pack_pages → slice_index uses page ≡ times page (named_pages copies)
  pub rest : free + length (named_pages copies) ≡ pack_pages

-- the superblock of an area: `LOCUSPK2`, the group, the site, zeros
unfoldable pub superblock : ℕ → ℕ → List ℕ
superblock group site = codes "LOCUSPK2" ++ group ∷ site ∷ replicate (layout.superblock_length - 10) 0

-- the area is that of a pack of this group at this site
abbrev pub IsPackOf : ℕ → ℕ → ℕ → List ℕ → Type 0
IsPackOf base group site image = bytes_at image base layout.superblock_length ≡ superblock group site

-- only the slot of this copy is open, and its bytes are the copy's
pub record StandsAlone (base ino : ℕ) (copy : InodeCopy) (image : List ℕ) : Type 0 where
  pub bytes : bytes_at image (slot_at base ino copy.half) layout.slot_length ≡ slot_bytes copy.slot
  pub other : is_open image (slot_at base ino (other_half copy.half)) ≡ false

-- where there is no copy, no slot of the inode is open
abbrev pub ShowsSlot : ℕ → ℕ → List ℕ → Option InodeCopy → Type 0
ShowsSlot base ino image None = (half : Half) → is_open image (slot_at base ino half) ≡ false
ShowsSlot base ino image (Some copy) = StandsAlone base ino copy image

-- and the bytes of its tables are the copy's
abbrev pub ShowsTables : ℕ → List ℕ → Option InodeCopy → Type 0
ShowsTables base image copy = IfSome copy (λ one. HoldsTables image base one.slot (numbers_in one))

abbrev pub ShowsCopy : ℕ → ℕ → List ℕ → Option InodeCopy → Type 0
ShowsCopy base ino image copy = ShowsSlot base ino image copy × ShowsTables base image copy

-- each inode's open slot is its copy
abbrev pub ShowsCopies : ℕ → List ℕ → (ℕ → Option InodeCopy) → Type 0
ShowsCopies base image copies = (ino : ℕ) → 1 ≤ ino → ino ≤ inodes_max → ShowsCopy base ino image (copies ino)
