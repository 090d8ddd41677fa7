-- How a mount reads the tables of the slots that count.
use Rattle.std.specs.Prelude.{◌≡◌, ℕ, ◌+◌, ◌<◌, List, [], Option, None, Some, slice_index_or}
use Rattle.pack_layout.specs.Layout.{IsSlot}
use Rattle.pack_slots.specs.declared.inode_copy.InodeCopy.{InodeCopy}
use Rattle.pack_slots.specs.declared.mount_fault.MountFault.{MountFault}
use Rattle.pack_slots.specs.declared.mount_fault.MountFault.TheVariants.{Disk, NotAPack, BadSlot, SharedTable, SharedPage, NoMemory}
use Rattle.pack_slots.specs.Slots.{HasMore}

-- a copy whose tables aren't read yet
pub record IsUnread (copy : InodeCopy) : Type 0 where
  pub slot : IsSlot copy.slot
  pub more : copy.more ≡ []

-- the copy has what its tables have
pub record IsCopyRead (base : ℕ) (image : List ℕ) (before : InodeCopy) (after : Option InodeCopy) : Type 0 where
  pub more : List ℕ
  pub is : after ≡ Some (record { half = before.half; slot = before.slot; more = more })
  pub has : HasMore base before.slot more image

abbrev pub IsReadIn : ℕ → List ℕ → Option InodeCopy → Option InodeCopy → Type 0
IsReadIn base image None after = after ≡ None
IsReadIn base image (Some before) after = IsCopyRead base image before after

-- the tables of the first n copies are read
abbrev pub AreRead : ℕ → List ℕ → ℕ → List (Option InodeCopy) → List (Option InodeCopy) → Type 0
AreRead base image n before after = (i : ℕ) → i < n → IsReadIn base image (slice_index_or before i None) (slice_index_or after i None)

-- no page numbers are those of the copy's tables
abbrev pub IsBadIn : ℕ → List ℕ → Option InodeCopy → Type 0
IsBadIn base image None = ⊥
IsBadIn base image (Some copy) = (more : List ℕ) → HasMore base copy.slot more image → ⊥

-- the tables of the copy at this place are bad, and those before it are read
pub record IsFirstBad (base : ℕ) (image : List ℕ) (i : ℕ) (before after : List (Option InodeCopy)) : Type 0 where
  pub bad : IsBadIn base image (slice_index_or before i None)
  pub read : AreRead base image i before after

abbrev pub IsTableFault : ℕ → List ℕ → List (Option InodeCopy) → List (Option InodeCopy) → MountFault → Type 0
IsTableFault base image before after Disk = Unit {0}
IsTableFault base image before after NotAPack = ⊥
IsTableFault base image before after (BadSlot ino) = (i : ℕ) × (ino ≡ i + 1) × IsFirstBad base image i before after
IsTableFault base image before after (SharedTable number) = ⊥
IsTableFault base image before after (SharedPage number) = ⊥
IsTableFault base image before after NoMemory = Unit {0}
