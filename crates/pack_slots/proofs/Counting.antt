-- The copy that is found in the slots of an inode is what counts there.
use Rattle.std.proofs.Common.{◌≡◌, ℕ, ◌+◌, ◌%◌, Bool, true, false, List, sym, ◌∙◌, arith, ⊎_elim}
use Rattle.std.specs.Prelude.{Option, None, Some, IfSome, ◌==◌}
use Rattle.std.proofs.lemmas.Bool.{eqb-true, eq-eqb, cases_Bool}
use Rattle.pack_layout.specs.declared.half.Half.{Half}
use Rattle.pack_layout.specs.declared.half.Half.TheVariants.{First, Second}
use Rattle.disk_model.specs.Images.{bytes_at}
use Rattle.pack_layout.specs.Layout.{slot_at, slot_bytes, other_half}
use Rattle.inode_switch.specs.View.{is_open, turn, newer_of, newer, counting}
use Rattle.inode_switch.specs.Replace.{IsNext}
use Rattle.inode_switch.proofs.SlotBytes.{says}
use Rattle.pack_slots.specs.declared.inode_copy.InodeCopy.{InodeCopy}
use Rattle.pack_slots.specs.Copies.{IsCopy, IsSlotOf}
use Rattle.pack_slots.specs.Slots.{IsSlotFound, IsFound, IsRecovered, counting_place}

-- a single open slot counts
alone_counts : (base ino : ℕ) (half : Half) (image : List ℕ) → is_open image (slot_at base ino half) ≡ true → is_open image (slot_at base ino (other_half half)) ≡ false → counting_place base ino image ≡ Some (slot_at base ino half)
alone_counts base ino First image one other = (λ i. counting (one i) (other i) (newer image (slot_at base ino First) (slot_at base ino Second)) (slot_at base ino First) (slot_at base ino Second))
alone_counts base ino Second image one other = (λ i. counting (other i) (one i) (newer image (slot_at base ino First) (slot_at base ino Second)) (slot_at base ino First) (slot_at base ino Second))

-- of two open slots that counts whose turn follows
winner_counts : (base ino : ℕ) (half : Half) (image : List ℕ) → is_open image (slot_at base ino half) ≡ true → is_open image (slot_at base ino (other_half half)) ≡ true
    → IsNext (turn image (slot_at base ino (other_half half))) (turn image (slot_at base ino half)) → counting_place base ino image ≡ Some (slot_at base ino half)
winner_counts base ino First image one other next =
    let first = slot_at base ino First in
    let second = slot_at base ino Second in
    let a = next.0 in
    let b = next.1 in
    let after : Bool = (turn image first + 1) % 3 == turn image second in
    let no : after ≡ false = ⊎_elim
    (λ (is : after ≡ true). let e = eqb-true ((turn image first + 1) % 3) (turn image second) is in absurd (omega arith))
    (λ (is : after ≡ false). is)
    (cases_Bool after) in
    let yes : ((turn image second + 1) % 3 == turn image first) ≡ true = eq-eqb ((turn image second + 1) % 3) (turn image first) (sym next.1) in
    (λ i. counting (one i) (other i) (newer_of (no i) (yes i)) first second)
winner_counts base ino Second image one other next =
    let first = slot_at base ino First in
    let second = slot_at base ino Second in
    let yes : ((turn image first + 1) % 3 == turn image second) ≡ true = eq-eqb ((turn image first + 1) % 3) (turn image second) (sym next.1) in
    (λ i. counting (other i) (one i) (newer_of (yes i) ((turn image second + 1) % 3 == turn image first)) first second)

-- where the slot of a copy stands
abbrev pub place_of_copy : ℕ → ℕ → Option InodeCopy → Option ℕ
place_of_copy base ino None = None
place_of_copy base ino (Some copy) = Some (slot_at base ino copy.half)

-- what is found in the slots says which of them counts
pub slot_counts : (base ino : ℕ) (image : List ℕ) (copy : Option InodeCopy) (loses : Bool) → IsSlotFound base ino image copy loses → counting_place base ino image ≡ place_of_copy base ino copy
slot_counts base ino image None false found =
    let first = slot_at base ino First in
    let second = slot_at base ino Second in
    let one = found.says First in
    let two = found.says Second in
    (λ i. counting (one i) (two i) (newer image first second) first second)
slot_counts base ino image None true found = absurd found.says
slot_counts base ino image (Some copy) false found =
    let s = says image (slot_at base ino copy.half) copy.slot found.says.bytes found.own.slot in
    alone_counts base ino copy.half image s.open_gate found.says.other
slot_counts base ino image (Some copy) true found =
    let s = says image (slot_at base ino copy.half) copy.slot found.says.bytes found.own.slot in
    let t = s.turn in
    winner_counts base ino copy.half image s.open_gate found.says.beside (found.says.next.0, t ∙ found.says.next.1)

own_slot : (ino : ℕ) (copy : Option InodeCopy) → IfSome copy (λ one. IsCopy ino one) → IfSome copy (λ one. IsSlotOf ino one)
own_slot ino None is = tt
own_slot ino (Some copy) is = record { slot = is.slot; own = is.own }

pub found_in_slots : (base ino : ℕ) (image : List ℕ) (copy : Option InodeCopy) (loses : Bool) → IsFound base ino image copy loses → IsSlotFound base ino image copy loses
found_in_slots base ino image copy loses found = record { says = found.says; own = own_slot ino copy found.own }

-- the bytes of its slot are the copy's
pub copy_bytes : (base ino : ℕ) (image : List ℕ) (copy : InodeCopy) (loses : Bool) → IsSlotFound base ino image (Some copy) loses → bytes_at image (slot_at base ino copy.half) 512 ≡ slot_bytes copy.slot
copy_bytes base ino image copy false found = found.says.bytes
copy_bytes base ino image copy true found = found.says.bytes

pub found_counts : (base ino : ℕ) (image : List ℕ) (copy : Option InodeCopy) (loses : Bool) → IsFound base ino image copy loses → IsRecovered base ino image copy
found_counts base ino image None loses found = slot_counts base ino image None loses (found_in_slots base ino image None loses found)
found_counts base ino image (Some copy) loses found =
    let slots = found_in_slots base ino image (Some copy) loses found in
    record { place = slot_counts base ino image (Some copy) loses slots; bytes = copy_bytes base ino image copy loses slots; tables = found.tables }
