-- An inode of which no slot is open.
use Rattle.std.proofs.Common.{◌≡◌, ◌≢◌, ℕ, ◌+◌, Bool, true, false, List, [], ◌∷◌, ◌++◌, take, drop, get_or, refl, sym, ◌∙◌, ap, arith, ⊎_elim}
use Rattle.std.specs.Prelude.{Option, None, Some, Result, Ok, ◌==◌}
use Rattle.std.proofs.lemmas.Bool.{eqb-true, cases_Bool}
use Rattle.std.proofs.lemmas.List.{get_or-take, get_or-drop}
use Rattle.disk_model.specs.Images.{bytes_at}
use Rattle.pack_layout.specs.declared.slot.BadSlot.{BadSlot}
use Rattle.pack_layout.specs.declared.half.Half.{Half}
use Rattle.pack_layout.specs.declared.half.Half.TheVariants.{First, Second}
use Rattle.pack_layout.specs.Layout.{layout, slot_at, open_gate}
use Rattle.inode_switch.specs.View.{is_open}
use Rattle.pack_slots.specs.declared.inode_copy.InodeCopy.{InodeCopy}
use Rattle.pack_slots.specs.declared.inodes.Inodes.{Inodes}
use Rattle.pack_slots.specs.declared.slots.Found.{Found}
use Rattle.pack_slots.specs.declared.slots.Found.TheVariants.{Nothing}
use Rattle.pack_slots.specs.Found.{copy_kept, loses_kept, first_bad}
use Rattle.pack_slots.specs.NextInode.{AddsInode}

abbrev nothing : Result Found BadSlot
nothing = Ok Nothing

-- a slot is shut where its first byte isn't that of an open one
shut : (image bytes : List ℕ) (place : ℕ) → bytes ≡ bytes_at image place layout.slot_length → get_or bytes 0 0 ≢ open_gate → is_open image place ≡ false
shut image bytes place is apart = ⊎_elim (λ (gate : is_open image place ≡ true). absurd (apart (first ∙ eqb-true (get_or image place 0) open_gate gate))) (λ none. none) (cases_Bool (is_open image place))
  where
    first : get_or bytes 0 0 ≡ get_or image place 0
    first =
        ap (λ (l : List ℕ). get_or l 0 0) is
        ∙ get_or-take layout.slot_length (drop place image) 0 0 (omega arith)
        ∙ get_or-drop place image 0 0
        ∙ (let e : place + 0 ≡ place = omega arith in ap (λ (n : ℕ). get_or image n 0) e)

none_copied : (bad : Option ℕ) → None ≡ copy_kept bad nothing
none_copied None = refl
none_copied (Some first) = refl

none_loses : (bad : Option ℕ) → false ≡ loses_kept bad nothing
none_loses None = refl
none_loses (Some first) = refl

none_bad : (bad : Option ℕ) (ino : ℕ) → bad ≡ first_bad bad ino nothing
none_bad None ino = refl
none_bad (Some first) ino = refl

-- nothing is added where both slots are shut
pub adds_none : (base ino : ℕ) (image first second : List ℕ) (old new : Inodes) → first ≡ bytes_at image (slot_at base ino First) layout.slot_length → second ≡ bytes_at image (slot_at base ino Second) layout.slot_length
    → (get_or first 0 0 ≢ open_gate) × (get_or second 0 0 ≢ open_gate) → new.copies.items ≡ old.copies.items ++ None ∷ [] → new.losing.items ≡ old.losing.items ++ false ∷ [] → new.bad ≡ old.bad → AddsInode base ino image old new
adds_none base ino image first second old new one two apart copies losing bad = record {
  read = nothing;
  copies = copies ∙ ap (λ (copy : Option InodeCopy). old.copies.items ++ copy ∷ []) (none_copied old.bad);
  losing = losing ∙ ap (λ (loses : Bool). old.losing.items ++ loses ∷ []) (none_loses old.bad);
  bad = bad ∙ none_bad old.bad ino;
  found = record { says = both_shut; own = tt };
  unread = tt;
  wrong = tt;
}
  where
    both_shut : (half : Half) → is_open image (slot_at base ino half) ≡ false
    both_shut First = shut image first (slot_at base ino First) one apart.0
    both_shut Second = shut image second (slot_at base ino Second) two apart.1
