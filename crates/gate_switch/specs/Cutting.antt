-- What a cut leaves of a gate, and of a switch.
use Rattle.std.specs.Prelude.{ℕ, ◌+◌, ◌<◌, ◌≡◌, List, [], ◌∷◌, length, Option, Some}
use Rattle.disk_model.specs.Cut.{Cut, left_by, left_in_write}
use Rattle.disk_model.specs.Disk.{Moment, IsSettled, Exactly}
use Rattle.gate_switch.specs.Switch.{Piece, TornIn, written, opened}

-- a gate is written on a settled disk, and the write is cut off, or the sync after it
pub record CutsGate (gate byte : ℕ) (old new : Moment) : Type 0 where
  pub how : new.how ≡ old.how
  pub write : IsSettled old → old.passing ≡ Exactly 0 → new.left ≡ left_in_write old.how old.seen gate (byte ∷ [])
  pub sync : IsSettled old → old.passing ≡ Exactly 1 → new.left ≡ left_by old.how old.seen gate (byte ∷ [])

-- What a switch leaves that was cut off after so many calls: the pieces torn, or all of them and the gate as the cut of its
-- write or of the sync after it has it, or the gate open and the old gate so.
pub record IsCut (pieces : List Piece) (gate : ℕ) (old_gate : Option ℕ) (how : Cut) (passed : ℕ) (old new : List ℕ) : Type 0 where
  pub torn : passed < length pieces + 1 → TornIn pieces old new
  pub opens : passed ≡ length pieces + 1 → new ≡ left_in_write how (written old pieces) gate (165 ∷ [])
  pub syncs_new : passed ≡ length pieces + 2 → new ≡ left_by how (written old pieces) gate (165 ∷ [])
  pub closes : (older : ℕ) → old_gate ≡ Some older → passed ≡ length pieces + 3 → new ≡ left_in_write how (opened gate (written old pieces)) older (0 ∷ [])
  pub syncs_old : (older : ℕ) → old_gate ≡ Some older → passed ≡ length pieces + 4 → new ≡ left_by how (opened gate (written old pieces)) older (0 ∷ [])
