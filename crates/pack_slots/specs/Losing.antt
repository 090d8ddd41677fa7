-- How a mount goes: what it finds in all slots, and how it closes those that lose.
use Rattle.std.specs.Prelude.{ℕ, zero, suc, ◌+◌, ◌≤◌, Bool, false, List, [], ◌∷◌, Option, None, Some, IfSome, slice_index_or, if◌then◌else◌}
use Rattle.locus_ids.specs.Sizes.{inodes_max}
use Rattle.disk_model.specs.Images.{Torn, overwritten}
use Rattle.pack_layout.specs.of_file_content.Pages.{pages_of}
use Rattle.pack_layout.specs.declared.half.Half.{Half}
use Rattle.pack_layout.specs.declared.half.Half.TheVariants.{First}
use Rattle.pack_layout.specs.Layout.{layout, slot_at, IsSlot, NamePages, other_half}
use Rattle.inode_switch.specs.View.{SameView}
use Rattle.pack_slots.specs.declared.inode_copy.InodeCopy.{InodeCopy}
use Rattle.pack_slots.specs.Copies.{copy_of, numbers_in}
use Rattle.pack_slots.specs.Mounting.{KeepsTables, ClosesAscending}
use Rattle.pack_slots.specs.Slots.{IsFound, IsSlotFound}

-- each copy is a slot, and names different pages
abbrev pub IsSlotApart : InodeCopy → Type 0
IsSlotApart copy = IsSlot copy.slot × NamePages (pages_of copy.slot.size) (numbers_in copy)

abbrev pub AreSlots : List (Option InodeCopy) → Type 0
AreSlots copies = (i : ℕ) → IfSome (slice_index_or copies i None) IsSlotApart

-- the inode's other slot is open too
abbrev pub is_losing : List Bool → ℕ → Bool
is_losing losing zero = false
is_losing losing (suc i) = slice_index_or losing i false

-- what was found in the slots of the inodes 1 to n
abbrev pub AreFound : ℕ → ℕ → List ℕ → List (Option InodeCopy) → List Bool → Type 0
AreFound base n image copies losing = (ino : ℕ) → 1 ≤ ino → ino ≤ n → IsFound base ino image (copy_of copies ino) (is_losing losing ino)

-- what was found in the slots alone of the inodes below one
abbrev pub AreSlotsFound : ℕ → ℕ → List ℕ → List (Option InodeCopy) → List Bool → Type 0
AreSlotsFound base n image copies losing = (ino : ℕ) → 1 ≤ ino → ino ≤ n → IsSlotFound base ino image (copy_of copies ino) (is_losing losing ino)

-- the slot of an inode that isn't its copy's
abbrev pub losing_half : Option InodeCopy → Half
losing_half None = First
losing_half (Some copy) = other_half copy.half

-- what a crash leaves while a losing gate is closed: its byte is torn, or nothing is where none loses
pub record IsClosing (base ino : ℕ) (half : Half) (loses : Bool) (old new : List ℕ) : Type 0 where
  pub view : SameView base old new
  pub torn : Torn (slot_at base ino half) (if loses then 1 else 0) old new

-- the bytes with this gate closed, where its slot loses
abbrev pub closed_if : Bool → ℕ → List ℕ → List ℕ
closed_if loses gate bytes = if loses then overwritten bytes gate (0 ∷ []) else bytes

-- a mount so far: only slots have changed, the view is as before, each copy still counts, each open slot has its tables as
-- before, and gates were closed in order
pub record KeepsCopies (base : ℕ) (copies : List (Option InodeCopy)) (old new : List ℕ) : Type 0 where
  pub slots : Torn (base + layout.slots_at) layout.slots_length old new
  pub view : SameView base old new
  pub found : (ino : ℕ) → 1 ≤ ino → ino ≤ inodes_max → (loses : Bool) × IsFound base ino new (copy_of copies ino) loses
  pub tables : KeepsTables base old new
  pub order : ClosesAscending base old new
