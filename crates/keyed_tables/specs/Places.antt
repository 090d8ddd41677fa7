-- Where the rows of a table stand, counted from 0.
use Rattle.std.specs.Prelude.{ℕ, ◌+◌, ◌==◌, true, false, List, [], ◌∷◌, Option, Some, None}
use Rattle.keyed_tables.specs.declared.index.Slot.{Slot}

-- the place of a key among keys, the first where it stands more than once, if the first key of all stands at n
abbrev pub place_from : ℕ → ℕ → List ℕ → Option ℕ
place_from k n [] = None
place_from k n (x ∷ xs) = elim (x == k) [
  | true ↦ Some n
  | false ↦ place_from k (n + 1) xs
]

-- the place of a key among keys, the first where it stands more than once
abbrev pub place_of : ℕ → List ℕ → Option ℕ
place_of k keys = place_from k 0 keys

-- ---- an index: the place of each key ----

abbrev pub slot_key : Slot → ℕ
slot_key s = s.key

abbrev pub slot_place : Option Slot → Option ℕ
slot_place None = None
slot_place (Some s) = Some s.place
