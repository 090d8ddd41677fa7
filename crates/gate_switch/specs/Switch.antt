-- The stages of a switch, as bytes of a disk.
use Rattle.std.specs.Prelude.{ℕ, ◌+◌, ◌≤◌, ◌<◌, ◌≡◌, ◌⊎◌, ◌||◌, Bool, false, List, [], ◌∷◌, length, slice_index, Option, None, Some}
use Rattle.std.specs.List.{All}
use Rattle.disk_model.specs.Images.{overwritten, is_within, Torn}

-- bytes to be written at a place of a disk
pub record Piece : Type 0 where
  pub at : ℕ
  pub bytes : List ℕ

-- each piece lies in so many bytes
abbrev pub AreWithin : List Piece → ℕ → Type 0
AreWithin pieces n = All (λ piece. piece.at + length piece.bytes ≤ n) pieces

abbrev pub GateWithin : Option ℕ → ℕ → Type 0
GateWithin None n = Unit {0}
GateWithin (Some gate) n = gate < n

-- place k is in one of the pieces
abbrev pub touches : List Piece → ℕ → Bool
touches [] k = false
touches (piece ∷ pieces) k = is_within piece.at (length piece.bytes) k || touches pieces k

-- new is old, but with any bytes where the pieces are
pub record TornIn (pieces : List Piece) (old new : List ℕ) : Type 0 where
  pub long : length new ≡ length old
  pub outside : (k : ℕ) → touches pieces k ≡ false → slice_index new k ≡ slice_index old k

-- the bytes after the pieces are written
abbrev pub written : List ℕ → List Piece → List ℕ
written bytes [] = bytes
written bytes (piece ∷ pieces) = written (overwritten bytes piece.at piece.bytes) pieces

-- the bytes with an open gate
abbrev pub opened : ℕ → List ℕ → List ℕ
opened gate bytes = overwritten bytes gate (165 ∷ [])

-- the bytes with the old gate closed, where there is one
abbrev pub closed : Option ℕ → List ℕ → List ℕ
closed None bytes = bytes
closed (Some gate) bytes = overwritten bytes gate (0 ∷ [])

abbrev pub TornGate : Option ℕ → List ℕ → List ℕ → Type 0
TornGate None old new = ⊥
TornGate (Some gate) old new = Torn gate 1 old new

-- the pieces are torn, or all of them are there and the gate is torn, or it is open and the old gate is torn
abbrev pub IsStage : List Piece → ℕ → Option ℕ → List ℕ → List ℕ → Type 0
IsStage pieces gate old_gate old new = TornIn pieces old new ⊎ (Torn gate 1 (written old pieces) new ⊎ TornGate old_gate (opened gate (written old pieces)) new)

-- the bytes after the whole switch
abbrev pub switched : List Piece → ℕ → Option ℕ → List ℕ → List ℕ
switched pieces gate old_gate bytes = closed old_gate (opened gate (written bytes pieces))

-- how many writes and syncs a switch makes
abbrev pub calls_of : List Piece → Option ℕ → ℕ
calls_of pieces None = length pieces + 3
calls_of pieces (Some gate) = length pieces + 5
