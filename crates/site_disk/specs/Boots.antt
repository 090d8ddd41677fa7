-- What a boot of a disk leaves, why it doesn't come about, and how many calls it makes.
use Rattle.std.specs.Prelude.{◌≡◌, ◌⊎◌, ℕ, ◌+◌, ◌-◌, nat_lt, Bool, cond, List, length, Result, Ok, Err, if◌then◌else◌}
use Rattle.locus_ids.specs.declared.ids.FileId.{FileId}
use Rattle.disk_model.specs.Cut.{Cut}
use Rattle.disk_model.specs.declared.disk.DiskFault.{DiskFault}
use Rattle.disk_model.specs.declared.disk.DiskFault.TheVariants.{Failed}
use Rattle.disk_model.specs.Disk.{Passing}
use Rattle.disk_model.specs.Images.{Torn}
use Rattle.disk_model.specs.Moments.{TellsMany}
use Rattle.pack_slots.specs.declared.mount_fault.MountFault.{MountFault}
use Rattle.pack_slots.specs.declared.mount_fault.MountFault.TheVariants as mount
use Rattle.site_label.specs.declared.label_fault.LabelFault.{LabelFault}
use Rattle.site_label.specs.declared.label_fault.LabelFault.TheVariants as label
use Rattle.pack_slots.specs.Cutting.{closings_left}
use Rattle.site_label.specs.Cutting.{LabelState, boot_left}
use Rattle.site_label.specs.Label.{HasBoot}
use Rattle.site_label.specs.Raising.{are_open}
use Rattle.site_packs.specs.Copies.{copies_on}
use Rattle.site_packs.specs.Cutting.{both_open_on}
use Rattle.site_packs.specs.Packs.{areas_end}
use Rattle.site_packs.specs.Mounting.{AreSound, AreTablesKept, IsFirstCause, mount_calls}
use Rattle.site_disk.specs.Image.{label_on, one_half}
use Rattle.site_disk.specs.declared.boot_fault.BootFault.{BootFault}
use Rattle.site_disk.specs.declared.boot_fault.BootFault.TheVariants.{Disk, NotALabel, Spent, NotAPack, BadSlot, SharedTable, SharedPage, NoMemory}

-- a fault of the label, and of the first pack that doesn't mount
abbrev pub fault_of_label : LabelFault → BootFault
fault_of_label label.Disk = Disk
fault_of_label label.NotALabel = NotALabel
fault_of_label label.Spent = Spent

abbrev pub fault_of_mount : MountFault → BootFault
fault_of_mount mount.Disk = Disk
fault_of_mount mount.NotAPack = NotAPack
fault_of_mount (mount.BadSlot ino) = BadSlot ino
fault_of_mount (mount.SharedTable table) = SharedTable table
fault_of_mount (mount.SharedPage page) = SharedPage page
fault_of_mount mount.NoMemory = NoMemory

-- What a crash within a boot leaves: the number from before or the raised one, the same copies in packs that mount, each open
-- slot with its tables as before, and behind the packs all as before.
pub record MayBeLeft (site : ℕ) (groups old new : List ℕ) : Type 0 where
  pub number : (boot : ℕ) → HasBoot site boot old → HasBoot site boot new ⊎ HasBoot site (boot + 1) new
  pub copies : copies_on groups new ≡ copies_on groups old
  pub sound : AreSound site groups new
  pub tables : AreTablesKept old new
  pub outside : Torn 0 (areas_end (length groups)) old new

-- Why a disk isn't booted: the label has no number or the greatest one, or it has one that may be raised, and a pack is the
-- first that doesn't mount. A failing disk and want of memory say nothing of it.
abbrev pub IsCause : ℕ → List ℕ → List ℕ → BootFault → Type 0
IsCause site groups image Disk = Unit {0}
IsCause site groups image NotALabel = (boot : ℕ) → HasBoot site boot image → ⊥
IsCause site groups image Spent = HasBoot site 4294967295 image
IsCause site groups image NotAPack = IsFirstCause 0 site groups image mount.NotAPack
IsCause site groups image (BadSlot ino) = IsFirstCause 0 site groups image (mount.BadSlot ino)
IsCause site groups image (SharedTable table) = IsFirstCause 0 site groups image (mount.SharedTable table)
IsCause site groups image (SharedPage page) = IsFirstCause 0 site groups image (mount.SharedPage page)
IsCause site groups image NoMemory = Unit {0}

-- a fault that says nothing of the image
abbrev pub IsPassing : BootFault → Type 0
IsPassing Disk = Unit {0}
IsPassing NotALabel = ⊥
IsPassing Spent = ⊥
IsPassing NotAPack = ⊥
IsPassing (BadSlot ino) = ⊥
IsPassing (SharedTable table) = ⊥
IsPassing (SharedPage page) = ⊥
IsPassing NoMemory = Unit {0}

-- a fault that comes before the first write
abbrev pub IsEarly : BootFault → Type 0
IsEarly Disk = ⊥
IsEarly NotALabel = Unit {0}
IsEarly Spent = Unit {0}
IsEarly NotAPack = ⊥
IsEarly (BadSlot ino) = ⊥
IsEarly (SharedTable table) = ⊥
IsEarly (SharedPage page) = ⊥
IsEarly NoMemory = ⊥

-- what the disk calls of a boot answered
abbrev pub disk_answer : {T : Type 0} → Result T BootFault → Result (Unit {0}) DiskFault
disk_answer (Ok booted) = Ok tt
disk_answer (Err Disk) = Err Failed
disk_answer (Err NotALabel) = Ok tt
disk_answer (Err Spent) = Ok tt
disk_answer (Err NotAPack) = Ok tt
disk_answer (Err (BadSlot ino)) = Ok tt
disk_answer (Err (SharedTable table)) = Ok tt
disk_answer (Err (SharedPage page)) = Ok tt
disk_answer (Err NoMemory) = Ok tt

-- the writes and syncs of the label: six, and two more where both halves are open
abbrev pub label_calls : Bool → ℕ
label_calls both = if both then 8 else 6

-- those of a boot: of the label, and two for each losing gate
abbrev pub boot_calls : List ℕ → List ℕ → ℕ
boot_calls groups image = label_calls (are_open image) + mount_calls groups image

-- Where a disk tells how many calls pass, a boot that isn't refused by what it reads fails exactly where they are too few, and
-- one that is refused by the label makes none.
abbrev pub TellsBoot : {T : Type 0} → ℕ → Passing → Passing → Result T BootFault → Type 0
TellsBoot calls before after (Ok booted) = TellsMany {T = Unit {0}} {E = DiskFault} calls before after (Ok tt)
TellsBoot calls before after (Err Disk) = TellsMany {T = Unit {0}} {E = DiskFault} calls before after (Err Failed)
TellsBoot calls before after (Err NotALabel) = TellsMany {T = Unit {0}} {E = DiskFault} 0 before after (Ok tt)
TellsBoot calls before after (Err Spent) = TellsMany {T = Unit {0}} {E = DiskFault} 0 before after (Ok tt)
TellsBoot calls before after (Err NotAPack) = Unit {0}
TellsBoot calls before after (Err (BadSlot ino)) = Unit {0}
TellsBoot calls before after (Err (SharedTable table)) = Unit {0}
TellsBoot calls before after (Err (SharedPage page)) = Unit {0}
TellsBoot calls before after (Err NoMemory) = Unit {0}

-- ---- a boot that was cut off after so many calls: those of the label come first ----

abbrev pub label_left : Bool → Cut → ℕ → ℕ → LabelState
label_left both how passed before = cond (nat_lt passed (label_calls both)) (boot_left both how passed before) (one_half (before + 1))

-- the files of which both gates are open still
abbrev pub files_left : Bool → Cut → ℕ → List FileId → List FileId
files_left both how passed files = cond (nat_lt passed (label_calls both)) files (closings_left how (passed - label_calls both) files)

pub record IsCutBoot (site : ℕ) (groups : List ℕ) (how : Cut) (before passed : ℕ) (old new : List ℕ) : Type 0 where
  pub number : HasBoot site (label_left (are_open old) how passed before).boot new
  pub label : label_on new ≡ label_left (are_open old) how passed before
  pub both : both_open_on groups new ≡ files_left (are_open old) how passed (both_open_on groups old)
  pub copies : AreSound site groups old → copies_on groups new ≡ copies_on groups old
  pub tables : AreSound site groups old → AreTablesKept old new
  pub outside : Torn 0 (areas_end (length groups)) old new
