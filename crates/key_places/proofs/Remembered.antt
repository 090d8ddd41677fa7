-- Slots of keys that came not long ago, where one more key comes.
use Rattle.std.proofs.Common.{ℕ, zero, suc, ◌≡◌, refl, sym, ap, ◌∙◌, Bool, true, false, not, ◌==◌, cond, List, [], ◌∷◌, length, Option, Some, slice_get, slice_set}
use Rattle.std.specs.List.{list_all}
use Rattle.std.specs.Option.{is_some}
use Rattle.std.proofs.Math.ListN.{length-set}
use Rattle.plain_facts.proofs.Numbers.{apart, equal, equal_self}
use Rattle.plain_facts.proofs.Options.{none_some, some_same}
use Rattle.plain_facts.proofs.Tests.{and_first, and_second, and_true, false_true, false_unless}
use Rattle.key_places.specs.declared.key.Key.{Key}
use Rattle.key_places.specs.declared.recent.Slot.{Slot}
use Rattle.key_places.specs.Keys.{same_key}
use Rattle.key_places.specs.Places.{place_of}
use Rattle.key_places.specs.Recent.{AreRecent, slot_of}
use Rattle.key_places.proofs.Changes.{same_is}

same_self : (k : Key) → same_key k k ≡ true
same_self k = and_true (k.first == k.first) _ (equal_self k.first) (and_true (k.second == k.second) _ (equal_self k.second) (and_true (k.third == k.third) (k.fourth == k.fourth) (equal_self k.third) (equal_self k.fourth)))

at_other : {X : Type 0} (xs : List X) (at i : ℕ) (y : X) → (i ≡ at → ⊥) → slice_get (slice_set xs at y) i ≡ slice_get xs i
at_other [] at i y apart = refl
at_other (x ∷ xs) zero zero y apart = absurd (apart refl)
at_other (x ∷ xs) zero (suc i) y apart = refl
at_other (x ∷ xs) (suc at) zero y apart = refl
at_other (x ∷ xs) (suc at) (suc i) y apart = at_other xs at i y (λ same. apart (ap suc same))

at_same : {X : Type 0} (xs : List X) (at : ℕ) (x y : X) → slice_get (slice_set xs at y) at ≡ Some x → x ≡ y
at_same [] at x y e = absurd (none_some x e)
at_same (z ∷ xs) zero x y e = sym (some_same y x e)
at_same (z ∷ xs) (suc at) x y e = at_same xs at x y e

-- the slot has no place
abbrev pub is_empty : Slot → Bool
is_empty s = not (is_some s.place)

-- slots without places fit any keys
pub empty_fit : (slots : List Slot) → list_all is_empty slots ≡ true → (keys : List Key) → AreRecent slots keys
empty_fit slots none keys i s place e f = absurd (false_true (ap (λ (o : Option ℕ). not (is_some o)) (sym f) ∙ at slots i none e)) where
  at : (ss : List Slot) (j : ℕ) → list_all is_empty ss ≡ true → slice_get ss j ≡ Some s → is_empty s ≡ true
  at [] j h g = absurd (none_some s g)
  at (x ∷ ss) zero h g = ap is_empty (sym (some_same x s g)) ∙ and_first (is_empty x) (list_all is_empty ss) h
  at (x ∷ ss) (suc j) h g = at ss j (and_second (is_empty x) (list_all is_empty ss) h) g

-- the key that comes is in its slot, and those in other slots are other keys
pub remembered : (slots : List Slot) (spot : ℕ) (k : Key) (n : ℕ) (keys : List Key) → AreRecent slots keys → n ≡ length keys → spot ≡ slot_of k (length slots) → AreRecent (slice_set slots spot (record { key = k; place = Some n })) (k ∷ keys)
remembered slots spot k n keys before same its i s place e f = which (i == spot) refl where
  new : Slot
  new = record { key = k; place = Some n }

  long : length (slice_set slots spot new) ≡ length slots
  long = length-set slots spot new

  here : i ≡ spot → (slot_of s.key (length (slice_set slots spot new)) ≡ i) × (place_of s.key (k ∷ keys) ≡ Some place)
  here at =
      let is : s ≡ new = at_same slots spot s new (ap (slice_get (slice_set slots spot new)) (sym at) ∙ e) in
      let many : n ≡ place = some_same n place (ap (λ (t : Slot). t.place) (sym is) ∙ f) in (
        ap (slot_of s.key) long ∙ (ap (λ (t : Slot). slot_of t.key (length slots)) is ∙ (sym its ∙ sym at)),
        ap (λ (t : Slot). place_of t.key (k ∷ keys)) is ∙ (ap (λ b. cond b (Some (length keys)) (place_of k keys)) (same_self k) ∙ ap (λ m. Some m) (sym same ∙ many)),
      )

  there : (i ≡ spot → ⊥) → (slot_of s.key (length (slice_set slots spot new)) ≡ i) × (place_of s.key (k ∷ keys) ≡ Some place)
  there off =
      let h : (slot_of s.key (length slots) ≡ i) × (place_of s.key keys ≡ Some place) = before i s place (sym (at_other slots spot i new off) ∙ e) f in
      let other : same_key k s.key ≡ false = false_unless (same_key k s.key) (λ t. off (sym h.0 ∙ (ap (λ (a : Key). slot_of a (length slots)) (sym (same_is k s.key t)) ∙ sym its))) in
      (ap (slot_of s.key) long ∙ h.0, ap (λ b. cond b (Some (length keys)) (place_of s.key keys)) other ∙ h.1)

  which : (b : Bool) → (i == spot) ≡ b → (slot_of s.key (length (slice_set slots spot new)) ≡ i) × (place_of s.key (k ∷ keys) ≡ Some place)
  which true t = here (equal i spot t)
  which false t = there (apart i spot t)
