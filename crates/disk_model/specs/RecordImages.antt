-- The moments of a disk that keeps each call.
use Rattle.std.specs.Prelude.{ℕ, ◌≡◌, ◌+◌, ◌<◌, ◌≤◌, List, [], ◌∷◌, ◌++◌, length}
use Rattle.disk_model.specs.declared.record_disk.Call.{Call}
use Rattle.disk_model.specs.declared.record_disk.Call.TheVariants.{Wrote}
use Rattle.disk_model.specs.declared.record_disk.RecordDisk.{RecordDisk}
use Rattle.disk_model.specs.Cut.{Fails}
use Rattle.disk_model.specs.Disk.{Moment, Untold}
use Rattle.disk_model.specs.RecordDisk.{State, state_after, image_of}

abbrev pub seen : RecordDisk → List ℕ
seen disk = disk.seen.items

-- the number of calls so far
abbrev pub calls_kept : RecordDisk → ℕ
calls_kept disk = length disk.calls.items

-- what the disk was after the first k calls
abbrev pub state_at : RecordDisk → ℕ → State
state_at disk k = state_after (length disk.seen.items) disk.pool.items disk.calls.items k

abbrev pub images : RecordDisk → List ℕ → Type 0
images disk image = image_of (state_at disk (calls_kept disk)) image

-- the images of all moments from t to now
abbrev pub images_since : RecordDisk → ℕ → List ℕ → Type 0
images_since disk t image = (k : ℕ) × (t ≤ k) × (k ≤ calls_kept disk) × image_of (state_at disk k) image

-- the disk as the trait sees it: a moment is numbered by the calls before it, and how many calls pass is not told;
-- one that fails does nothing
abbrev pub moment : RecordDisk → Moment
moment disk = record { seen = seen disk; may_leave = images disk; now = calls_kept disk; may_have_left = images_since disk; faults = disk.faults; passing = Untold; how = Fails; left = seen disk }

-- each image since an earlier moment is one since then still
abbrev pub Remembers : RecordDisk → RecordDisk → Type 0
Remembers old new = (t : ℕ) (image : List ℕ) → images_since old t image → images_since new t image

-- a call more is kept, with so many bytes
abbrev pub HasRoom : RecordDisk → ℕ → Type 0
HasRoom disk n = (length disk.calls.items < disk.calls_room) × (length disk.pool.items + n ≤ disk.bytes_room)

-- the room is as it was
pub record SameRoom (old new : RecordDisk) : Type 0 where
  pub calls : new.calls_room ≡ old.calls_room
  pub bytes : new.bytes_room ≡ old.bytes_room

-- one call more is kept, its bytes behind those of the others
pub record Keeps (call : Call) (bytes : List ℕ) (old new : RecordDisk) : Type 0 where
  pub pool : new.pool.items ≡ old.pool.items ++ bytes
  pub calls : new.calls.items ≡ old.calls.items ++ call ∷ []

-- no call more is kept
pub record KeepsNone (old new : RecordDisk) : Type 0 where
  pub pool : new.pool.items ≡ old.pool.items
  pub calls : new.calls.items ≡ old.calls.items

-- the call of a write of so many bytes at a place
abbrev pub wrote : RecordDisk → ℕ → ℕ → Call
wrote disk at n = Wrote (record { at = at; len = n }) (length disk.pool.items)
