-- What a boot makes of a label, and what a crash within it leaves.
use Rattle.std.specs.Prelude.{◌≡◌, ◌⊎◌, ℕ, ◌+◌, ◌&&◌, Bool, List, drop, Result, Ok, Err, if◌then◌else◌}
use Rattle.disk_model.specs.declared.disk.DiskFault.{DiskFault}
use Rattle.disk_model.specs.declared.disk.DiskFault.TheVariants.{Failed}
use Rattle.disk_model.specs.Images.{Torn}
use Rattle.gate_switch.specs.Switch.{Piece}
use Rattle.site_label.specs.declared.half.Half.{Half}
use Rattle.site_label.specs.declared.half.Half.TheVariants.{First, Second}
use Rattle.site_label.specs.declared.label_fault.LabelFault.{LabelFault}
use Rattle.site_label.specs.declared.label_fault.LabelFault.TheVariants.{Disk, NotALabel, Spent}
use Rattle.site_label.specs.Label.{label_bytes, half_at, half_bytes, is_open, HasBoot}

-- a half but for its gate
abbrev pub body_piece : Half → ℕ → ℕ → Piece
body_piece half site boot = record { at = half_at half + 1; bytes = drop 1 (half_bytes site boot) }

-- the number is this one or the raised one, and outside the label all is as before
pub record IsRaising (site boot : ℕ) (old new : List ℕ) : Type 0 where
  pub number : HasBoot site boot new ⊎ HasBoot site (boot + 1) new
  pub outside : Torn 0 label_bytes old new

-- what a crash within a boot leaves: the number from before or the raised one; outside the label all is as before
pub record MayBeLeft (site : ℕ) (old new : List ℕ) : Type 0 where
  pub number : (boot : ℕ) → HasBoot site boot old → HasBoot site boot new ⊎ HasBoot site (boot + 1) new
  pub outside : Torn 0 label_bytes old new

-- this is one above the number from before
abbrev pub IsRaised : ℕ → List ℕ → ℕ → Type 0
IsRaised site old boot = (before : ℕ) × HasBoot site before old × (boot ≡ before + 1)

-- why a label isn't read; a failing disk says nothing of it
abbrev pub IsUnread : ℕ → List ℕ → LabelFault → Type 0
IsUnread site image Disk = Unit {0}
IsUnread site image NotALabel = (boot : ℕ) → HasBoot site boot image → ⊥
IsUnread site image Spent = ⊥

-- why a boot number isn't raised
abbrev pub IsCause : ℕ → List ℕ → LabelFault → Type 0
IsCause site image Disk = Unit {0}
IsCause site image NotALabel = (boot : ℕ) → HasBoot site boot image → ⊥
IsCause site image Spent = HasBoot site 4294967295 image

-- a fault that comes before the first write
abbrev pub IsEarly : LabelFault → Type 0
IsEarly Disk = ⊥
IsEarly NotALabel = Unit {0}
IsEarly Spent = Unit {0}

-- both halves are open
abbrev pub are_open : List ℕ → Bool
are_open image = is_open image First && is_open image Second

-- the writes and syncs of a boot: six, and two more where both halves are open; none where the number isn't raised
abbrev pub boot_calls : {T : Type 0} → List ℕ → Result T LabelFault → ℕ
boot_calls image (Ok boot) = if are_open image then 8 else 6
boot_calls image (Err Disk) = if are_open image then 8 else 6
boot_calls image (Err NotALabel) = 0
boot_calls image (Err Spent) = 0

-- what the disk calls of a boot answered
abbrev pub disk_answer : {T : Type 0} → Result T LabelFault → Result (Unit {0}) DiskFault
disk_answer (Ok boot) = Ok tt
disk_answer (Err Disk) = Err Failed
disk_answer (Err NotALabel) = Ok tt
disk_answer (Err Spent) = Ok tt
