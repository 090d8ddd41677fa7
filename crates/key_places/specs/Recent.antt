-- Slots of keys that came not long ago.
use Rattle.std.specs.Prelude.{ℕ, ◌≡◌, ◌+◌, ◌*◌, ◌%◌, List, length, Some, slice_get}
use Rattle.key_places.specs.declared.key.Key.{Key}
use Rattle.key_places.specs.declared.recent.Slot.{Slot}
use Rattle.key_places.specs.Places.{place_of}

-- the slot of a key, where there are so many
abbrev pub slot_of : Key → ℕ → ℕ
slot_of k many = (k.first + 31 * k.second + 977 * k.third + 257 * k.fourth) % many

-- where a slot has a place, it is that of its key, whose slot it is
abbrev pub AreRecent : List Slot → List Key → Type 0
AreRecent slots keys = (i : ℕ) (s : Slot) (place : ℕ) → slice_get slots i ≡ Some s → s.place ≡ Some place → (slot_of s.key (length slots) ≡ i) × (place_of s.key keys ≡ Some place)
