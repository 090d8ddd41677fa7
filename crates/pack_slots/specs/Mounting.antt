-- Which images mount as a pack, why another doesn't, and what a mount does.
use Rattle.std.specs.Prelude.{◌≡◌, ℕ, zero, suc, ◌+◌, ◌*◌, ◌<◌, ◌≤◌, ◌&&◌, Bool, false, List, Option, Some, Result, Ok, Err, if◌then◌else◌}
use Rattle.locus_ids.specs.Sizes.{inodes_max}
use Rattle.disk_model.specs.declared.disk.DiskFault.{DiskFault}
use Rattle.disk_model.specs.declared.disk.DiskFault.TheVariants.{Failed}
use Rattle.disk_model.specs.Images.{Torn}
use Rattle.pack_layout.specs.of_file_content.Pages.{pages_of, tables_of}
use Rattle.pack_layout.specs.declared.half.Half.{Half}
use Rattle.pack_layout.specs.declared.half.Half.TheVariants.{First, Second}
use Rattle.pack_layout.specs.Layout.{area_length, slot_at}
use Rattle.inode_switch.specs.View.{is_open, size, table, page, SameView}
use Rattle.pack_slots.specs.declared.inode_copy.InodeCopy.{InodeCopy}
use Rattle.pack_slots.specs.declared.mount_fault.MountFault.{MountFault}
use Rattle.pack_slots.specs.declared.mount_fault.MountFault.TheVariants.{Disk, NotAPack, BadSlot, SharedTable, SharedPage, NoMemory}
use Rattle.pack_slots.specs.Copies.{copy_of, IsPackOf}
use Rattle.pack_slots.specs.Slots.{HasTables, IsGoodInode, counting_place, IsRecovered}

-- the slot of an inode that counts names a data page
pub record Names (base ino number : ℕ) (image : List ℕ) : Type 0 where
  pub place : ℕ
  pub counts : counting_place base ino image ≡ Some place
  pub i : ℕ
  pub inside : i < pages_of (size image place)
  pub is : page image base place i ≡ number

-- the counting slots of two inodes name a data page
pub record IsShared (base number : ℕ) (image : List ℕ) : Type 0 where
  pub one : ℕ
  pub other : ℕ
  pub low : 1 ≤ one
  pub apart : one < other
  pub high : other ≤ inodes_max
  pub first : Names base one number image
  pub second : Names base other number image

-- the slot of an inode that counts names a table
pub record NamesTable (base ino number : ℕ) (image : List ℕ) : Type 0 where
  pub place : ℕ
  pub counts : counting_place base ino image ≡ Some place
  pub k : ℕ
  pub inside : k < tables_of (pages_of (size image place))
  pub is : table image place k ≡ number

-- the counting slots of two inodes name a table
pub record IsSharedTable (base number : ℕ) (image : List ℕ) : Type 0 where
  pub one : ℕ
  pub other : ℕ
  pub low : 1 ≤ one
  pub apart : one < other
  pub high : other ≤ inodes_max
  pub first : NamesTable base one number image
  pub second : NamesTable base other number image

-- a pack of this group and site that mounts
pub record IsSound (base group site : ℕ) (image : List ℕ) : Type 0 where
  pub named : IsPackOf base group site image
  pub inodes : (ino : ℕ) → 1 ≤ ino → ino ≤ inodes_max → IsGoodInode base ino image
  pub tables : (number : ℕ) → IsSharedTable base number image → ⊥
  pub pages : (number : ℕ) → IsShared base number image → ⊥

-- the least inode with a bad slot
pub record IsLeastBad (base ino : ℕ) (image : List ℕ) : Type 0 where
  pub low : 1 ≤ ino
  pub high : ino ≤ inodes_max
  pub bad : IsGoodInode base ino image → ⊥
  pub below : (lower : ℕ) → 1 ≤ lower → lower < ino → IsGoodInode base lower image

-- the least table that is shared, in a pack whose slots are good
pub record IsLeastSharedTable (base number : ℕ) (image : List ℕ) : Type 0 where
  pub inodes : (ino : ℕ) → 1 ≤ ino → ino ≤ inodes_max → IsGoodInode base ino image
  pub shared : IsSharedTable base number image
  pub below : (lower : ℕ) → lower < number → IsSharedTable base lower image → ⊥

-- the least page that is shared, in a pack whose slots are good and share no table
pub record IsLeastShared (base number : ℕ) (image : List ℕ) : Type 0 where
  pub inodes : (ino : ℕ) → 1 ≤ ino → ino ≤ inodes_max → IsGoodInode base ino image
  pub tables : (table : ℕ) → IsSharedTable base table image → ⊥
  pub shared : IsShared base number image
  pub below : (lower : ℕ) → lower < number → IsShared base lower image → ⊥

-- why an image doesn't mount; a failing disk and want of memory say nothing of it
abbrev pub IsCause : ℕ → ℕ → ℕ → List ℕ → MountFault → Type 0
IsCause base group site image Disk = Unit {0}
IsCause base group site image NotAPack = IsPackOf base group site image → ⊥
IsCause base group site image (BadSlot ino) = IsPackOf base group site image × IsLeastBad base ino image
IsCause base group site image (SharedTable number) = IsPackOf base group site image × IsLeastSharedTable base number image
IsCause base group site image (SharedPage number) = IsPackOf base group site image × IsLeastShared base number image
IsCause base group site image NoMemory = Unit {0}

-- a fault that says nothing of the image
abbrev pub IsPassing : MountFault → Type 0
IsPassing Disk = Unit {0}
IsPassing NotAPack = ⊥
IsPassing (BadSlot ino) = ⊥
IsPassing (SharedTable number) = ⊥
IsPassing (SharedPage number) = ⊥
IsPassing NoMemory = Unit {0}

-- the copies are the recovered view: for each inode the slot that counts, or none
abbrev pub Recovers : ℕ → List ℕ → List (Option InodeCopy) → Type 0
Recovers base image copies = (ino : ℕ) → 1 ≤ ino → ino ≤ inodes_max → IsRecovered base ino image (copy_of copies ino)

-- both slots of the inode are open
abbrev pub has_losing_gate : ℕ → ℕ → List ℕ → Bool
has_losing_gate base ino image = is_open image (slot_at base ino First) && is_open image (slot_at base ino Second)

-- losing gates are closed inodes ascending: those of the inodes 1 to n are, and those beyond the next inode stand
pub record ClosesAscending (base : ℕ) (old new : List ℕ) : Type 0 where
  pub n : ℕ
  pub closed : (ino : ℕ) → 1 ≤ ino → ino ≤ n → has_losing_gate base ino new ≡ false
  pub others : (ino : ℕ) → n + 1 < ino → ino ≤ inodes_max → has_losing_gate base ino new ≡ has_losing_gate base ino old

-- each open slot that had its tables has them, also one that doesn't count
abbrev pub KeepsTables : ℕ → List ℕ → List ℕ → Type 0
KeepsTables base old new = (ino : ℕ) (half : Half) → 1 ≤ ino → ino ≤ inodes_max → HasTables base (slot_at base ino half) old → HasTables base (slot_at base ino half) new

-- What a crash within a mount leaves: outside the area and in its view all is as before, a sound pack is sound, and open slots
-- have their tables as before.
pub record KeepsPack (base group site : ℕ) (old new : List ℕ) : Type 0 where
  pub outside : Torn base area_length old new
  pub view : SameView base old new
  pub sound : IsSound base group site old → IsSound base group site new
  pub tables : KeepsTables base old new
  pub order : ClosesAscending base old new

-- how many of the inodes 1 to n have both slots open
unfoldable pub losing_gates : ℕ → ℕ → List ℕ → ℕ
losing_gates base zero image = 0
losing_gates base (suc n) image = losing_gates base n image + (if has_losing_gate base (suc n) image then 1 else 0)

-- the writes and syncs of a mount: two for each losing gate, and none where the image doesn't mount
abbrev pub mount_calls : {T : Type 0} → ℕ → List ℕ → Result T MountFault → ℕ
mount_calls base image (Ok pack) = 2 * losing_gates base inodes_max image
mount_calls base image (Err Disk) = 2 * losing_gates base inodes_max image
mount_calls base image (Err NotAPack) = 0
mount_calls base image (Err (BadSlot ino)) = 0
mount_calls base image (Err (SharedTable number)) = 0
mount_calls base image (Err (SharedPage number)) = 0
mount_calls base image (Err NoMemory) = 0

-- what the disk calls of a mount answered
abbrev pub disk_answer : {T : Type 0} → Result T MountFault → Result (Unit {0}) DiskFault
disk_answer (Ok pack) = Ok tt
disk_answer (Err Disk) = Err Failed
disk_answer (Err NotAPack) = Ok tt
disk_answer (Err (BadSlot ino)) = Ok tt
disk_answer (Err (SharedTable number)) = Ok tt
disk_answer (Err (SharedPage number)) = Ok tt
disk_answer (Err NoMemory) = Ok tt
