-- What the slots of an inode say, as the code keeps it.
use Rattle.std.specs.Prelude.{ℕ, Bool, true, false, Option, None, Some, Result, Ok, Err}
use Rattle.pack_layout.specs.declared.slot.BadSlot.{BadSlot}
use Rattle.pack_slots.specs.declared.inode_copy.InodeCopy.{InodeCopy}
use Rattle.pack_slots.specs.declared.slots.Found.{Found}
use Rattle.pack_slots.specs.declared.slots.Found.TheVariants.{Nothing, Alone, Beside}

-- the copy that counts
abbrev pub copy_in : Found → Option InodeCopy
copy_in Nothing = None
copy_in (Alone copy) = Some copy
copy_in (Beside copy) = Some copy

-- another slot is open beside it
abbrev pub is_beside : Found → Bool
is_beside Nothing = false
is_beside (Alone copy) = false
is_beside (Beside copy) = true

-- What is kept of the slots of an inode, where this is the first bad one before it, if there is one: nothing behind a bad one.
abbrev pub copy_kept : Option ℕ → Result Found BadSlot → Option InodeCopy
copy_kept None (Ok found) = copy_in found
copy_kept None (Err bad) = None
copy_kept (Some first) read = None

abbrev pub loses_kept : Option ℕ → Result Found BadSlot → Bool
loses_kept None (Ok found) = is_beside found
loses_kept None (Err bad) = false
loses_kept (Some first) read = false

-- and the first bad one then
abbrev pub first_bad : Option ℕ → ℕ → Result Found BadSlot → Option ℕ
first_bad None ino (Ok found) = None
first_bad None ino (Err bad) = Some ino
first_bad (Some first) ino read = Some first
