-- What is found in the slots of all inodes.
use Rattle.std.proofs.Common.{◌≡◌, ◌≢◌, ℕ, zero, suc, ◌+◌, ◌≤◌, ◌<◌, Bool, true, false, List, [], ◌∷◌, ◌++◌, length, sym, ◌∙◌, subst, arith, ⊎_elim}
use Rattle.std.specs.Prelude.{Option, None, Some, IfSome}
use Rattle.std.proofs.lemmas.Bool.{true≢false, cases_lt}
use Rattle.std.proofs.lemmas.List.{get_or_append_left, get_or_push, get_or_past}
use Rattle.locus_ids.specs.Sizes.{inodes_max}
use Rattle.pack_layout.specs.declared.half.Half.{Half}
use Rattle.pack_layout.specs.declared.half.Half.TheVariants.{First, Second}
use Rattle.pack_layout.specs.Layout.{slot_at, other_half}
use Rattle.pack_layout.proofs.Halves.{both_slots}
use Rattle.inode_switch.specs.View.{is_open, turn}
use Rattle.inode_switch.proofs.SlotBytes.{says}
use Rattle.pack_slots.specs.declared.inode_copy.InodeCopy.{InodeCopy}
use Rattle.pack_slots.specs.Copies.{copy_of, IsCopy}
use Rattle.pack_slots.specs.Slots.{HasSlot, HasNumbers, IsGoodInode, IsSlotFound, IsFound, counting_place}
use Rattle.pack_slots.specs.Losing.{AreFound, AreSlots, IsSlotApart, is_losing}
use Rattle.pack_slots.proofs.Counting.{slot_counts, found_in_slots, copy_bytes}

next_differs : (base ino : ℕ) (half : Half) (image : List ℕ) → turn image (slot_at base ino (other_half half)) ≢ turn image (slot_at base ino half) → turn image (slot_at base ino First) ≢ turn image (slot_at base ino Second)
next_differs base ino First image apart same = apart (sym same)
next_differs base ino Second image apart same = apart same

-- a copy's slot is one of its inode
pub copy_slot : (base ino : ℕ) (image : List ℕ) (copy : InodeCopy) (loses : Bool) → IsSlotFound base ino image (Some copy) loses → HasSlot ino (slot_at base ino copy.half) image
copy_slot base ino image copy loses found = record { slot = copy.slot; bytes = copy_bytes base ino image copy loses found; is = found.own.slot; own = found.own.own }

-- each open slot of the inode is one of it, and two open ones differ in their turns
record AreGood (base ino : ℕ) (image : List ℕ) : Type 0 where
  slots : (half : Half) → is_open image (slot_at base ino half) ≡ true → HasSlot ino (slot_at base ino half) image
  turns : is_open image (slot_at base ino First) ≡ true → is_open image (slot_at base ino Second) ≡ true → turn image (slot_at base ino First) ≢ turn image (slot_at base ino Second)

good_slots : (base ino : ℕ) (image : List ℕ) (copy : Option InodeCopy) (loses : Bool) → IsSlotFound base ino image copy loses → AreGood base ino image
good_slots base ino image None true found = absurd found.says
good_slots base ino image None false found = record {
  slots = λ half is. absurd (true≢false (sym is ∙ found.says half));
  turns = λ one two. absurd (true≢false (sym one ∙ found.says First));
}
good_slots base ino image (Some copy) false found = record {
  slots = both_slots (λ w. is_open image (slot_at base ino w) ≡ true → HasSlot ino (slot_at base ino w) image) copy.half
      (λ is. copy_slot base ino image copy false found) (λ is. absurd (true≢false (sym is ∙ found.says.other)));
  turns = λ one two. absurd (true≢false (sym (both_slots (λ w. is_open image (slot_at base ino w) ≡ true) First one two (other_half copy.half)) ∙ found.says.other));
}
good_slots base ino image (Some copy) true found =
    let s = says image (slot_at base ino copy.half) copy.slot found.says.bytes found.own.slot in
    let t = s.turn in
    let few = found.says.next.0 in
    let next = found.says.next.1 in
    record {
      slots = both_slots (λ w. is_open image (slot_at base ino w) ≡ true → HasSlot ino (slot_at base ino w) image) copy.half (λ is. copy_slot base ino image copy true found) (λ is. found.says.other);
      turns = λ one two. next_differs base ino copy.half image (λ same. omega arith);
    }

-- the slot that counts has its tables
has_numbers : (base ino : ℕ) (image : List ℕ) (copy : Option InodeCopy) (loses : Bool) → IsFound base ino image copy loses → (place : ℕ) → counting_place base ino image ≡ Some place → HasNumbers base place image
has_numbers base ino image None loses found place is = absurd (let e : None ≡ Some place = sym (slot_counts base ino image None loses (found_in_slots base ino image None loses found)) ∙ is in cc)
has_numbers base ino image (Some copy) loses found place is =
    let slots = found_in_slots base ino image (Some copy) loses found in
    let e : Some place ≡ Some (slot_at base ino copy.half) = sym is ∙ slot_counts base ino image (Some copy) loses slots in
    let same : place ≡ slot_at base ino copy.half = cc in
    subst (λ (at : ℕ). HasNumbers base at image) (sym same) (record { slot = copy.slot; more = copy.more; bytes = copy_bytes base ino image copy loses slots; is = found.own.slot; has = record { tables = found.tables; pages = found.own.pages } })

pub found_good : (base ino : ℕ) (image : List ℕ) (copy : Option InodeCopy) (loses : Bool) → IsFound base ino image copy loses → IsGoodInode base ino image
found_good base ino image copy loses found =
    let good = good_slots base ino image copy loses (found_in_slots base ino image copy loses found) in
    record { slots = good.slots; turns = good.turns; tables = has_numbers base ino image copy loses found }

-- what holds of the slots of each inode so far holds of one more
module _ (P : ℕ → Option InodeCopy → Bool → Type 0) (n : ℕ) (copies : List (Option InodeCopy)) (losing : List Bool) (copy : Option InodeCopy) (loses : Bool) (count : length copies ≡ n) (same : length losing ≡ n) where
  pub found_still : (ino : ℕ) → ino ≤ n → P ino (copy_of copies ino) (is_losing losing ino) → P ino (copy_of (copies ++ copy ∷ []) ino) (is_losing (losing ++ loses ∷ []) ino)
  found_still zero le is = is
  found_still (suc i) le is =
      let one : copy_of copies (suc i) ≡ copy_of (copies ++ copy ∷ []) (suc i) = sym (get_or_append_left copies (copy ∷ []) None i (omega (arith, count))) in
      let two : is_losing losing (suc i) ≡ is_losing (losing ++ loses ∷ []) (suc i) = sym (get_or_append_left losing (loses ∷ []) false i (omega (arith, same))) in
      subst (λ (b : Bool). P (suc i) (copy_of (copies ++ copy ∷ []) (suc i)) b) two (subst (λ (o : Option InodeCopy). P (suc i) o (is_losing losing (suc i))) one is)

  found_last : (ino : ℕ) → ino ≡ n + 1 → P (n + 1) copy loses → P ino (copy_of (copies ++ copy ∷ []) ino) (is_losing (losing ++ loses ∷ []) ino)
  found_last zero e new = absurd (omega arith)
  found_last (suc i) e new =
      let at : n ≡ i = omega (arith, e) in
      let one : copy ≡ copy_of (copies ++ copy ∷ []) (suc i) = sym (get_or_push copies copy None i (count ∙ at)) in
      let two : loses ≡ is_losing (losing ++ loses ∷ []) (suc i) = sym (get_or_push losing loses false i (same ∙ at)) in
      subst (λ (b : Bool). P (suc i) (copy_of (copies ++ copy ∷ []) (suc i)) b) two
      (subst (λ (o : Option InodeCopy). P (suc i) o loses) one
      (subst (λ (k : ℕ). P k copy loses) (sym e) new))

  pub found_more : ((ino : ℕ) → 1 ≤ ino → ino ≤ n → P ino (copy_of copies ino) (is_losing losing ino)) → P (n + 1) copy loses
      → (ino : ℕ) → 1 ≤ ino → ino ≤ n + 1 → P ino (copy_of (copies ++ copy ∷ []) ino) (is_losing (losing ++ loses ∷ []) ino)
  found_more found new ino low high = ⊎_elim
      (λ (below : ino < n + 1). found_still ino (omega (arith, below)) (found ino low (omega (arith, below))))
      (λ (above : n + 1 ≤ ino). found_last ino (omega (arith, above, high)) new)
      (cases_lt ino (n + 1))

-- each copy that was found is one of its inode
pub found_own : (base : ℕ) (image : List ℕ) (copies : List (Option InodeCopy)) (losing : List Bool) → length copies ≡ inodes_max → AreFound base inodes_max image copies losing → (ino : ℕ) → IfSome (copy_of copies ino) (λ copy. IsCopy ino copy)
found_own base image copies losing count found zero = tt
found_own base image copies losing count found (suc i) = ⊎_elim
    (λ (lt : i < inodes_max). (found (suc i) (omega arith) (omega arith)).own)
    (λ (le : inodes_max ≤ i). subst (λ (o : Option InodeCopy). IfSome o (λ copy. IsCopy (suc i) copy)) (sym (get_or_past copies i None (omega (arith, count)))) tt)
    (cases_lt i inodes_max)

copy_is_slot : (ino : ℕ) (copy : Option InodeCopy) → IfSome copy (λ one. IsCopy ino one) → IfSome copy IsSlotApart
copy_is_slot ino None is = tt
copy_is_slot ino (Some copy) is = (is.slot, is.pages)

pub own_slots : (copies : List (Option InodeCopy)) → ((ino : ℕ) → IfSome (copy_of copies ino) (λ copy. IsCopy ino copy)) → AreSlots copies
own_slots copies own i = copy_is_slot (suc i) (copy_of copies (suc i)) (own (suc i))
