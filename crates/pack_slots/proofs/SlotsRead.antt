-- What is kept of the slots of the inodes so far, and of those of one more.
use Rattle.std.proofs.Common.{◌≡◌, ℕ, zero, suc, ◌+◌, ◌-◌, ◌≤◌, Bool, false, List, [], ◌∷◌, ◌++◌, length, get_or, refl, subst, arith}
use Rattle.std.specs.Prelude.{Option, None, Some, Result, Ok, Err, IfSome, IfOk, IfErr}
use Rattle.std.proofs.lemmas.List.{get_or_past}
use Rattle.pack_layout.specs.declared.slot.BadSlot.{BadSlot}
use Rattle.pack_slots.specs.declared.inode_copy.InodeCopy.{InodeCopy}
use Rattle.pack_slots.specs.declared.slots.Found.{Found}
use Rattle.pack_slots.specs.Copies.{copy_of, IsSlotOf}
use Rattle.pack_slots.specs.Slots.{IsGoodInode, IsSlotFound}
use Rattle.pack_slots.specs.Losing.{AreSlotsFound}
use Rattle.pack_slots.specs.Tables.{IsUnread}
use Rattle.pack_slots.specs.Found.{copy_in, is_beside, copy_kept, loses_kept, first_bad}
use Rattle.pack_slots.proofs.Finding.{found_more, found_still}

-- the first bad one of the inodes 1 to n, and what those before it say
abbrev pub IsSoFar : ℕ → ℕ → List ℕ → Option ℕ → List (Option InodeCopy) → List Bool → Type 0
IsSoFar base n image bad copies losing = (bad ≡ None → AreSlotsFound base n image copies losing)
    × ((first : ℕ) → bad ≡ Some first → (1 ≤ first) × (first ≤ n) × (IsGoodInode base first image → ⊥) × AreSlotsFound base (first - 1) image copies losing × ((ino : ℕ) → first ≤ ino → copy_of copies ino ≡ None))

push_none : (copies : List (Option InodeCopy)) (i : ℕ) → get_or copies i None ≡ None → get_or (copies ++ None ∷ []) i None ≡ None
push_none [] zero is = refl
push_none [] (suc i) is = refl
push_none (copy ∷ copies) zero is = is
push_none (copy ∷ copies) (suc i) is = push_none copies i is

none_behind : (copies : List (Option InodeCopy)) (ino : ℕ) → copy_of copies ino ≡ None → copy_of (copies ++ None ∷ []) ino ≡ None
none_behind copies zero is = refl
none_behind copies (suc i) is = push_none copies i is

none_past : (copies : List (Option InodeCopy)) (n ino : ℕ) → length copies ≡ n → n + 1 ≤ ino → copy_of copies ino ≡ None
none_past copies n zero count le = refl
none_past copies n (suc i) count le = get_or_past copies i None (omega (arith, count, le))

module _ (base n : ℕ) (image : List ℕ) (copies : List (Option InodeCopy)) (losing : List Bool) (count : length copies ≡ n) (same : length losing ≡ n) where
  -- nothing is added behind a bad one
  still : (first : ℕ) → first ≤ n + 1 → AreSlotsFound base (first - 1) image copies losing → AreSlotsFound base (first - 1) image (copies ++ None ∷ []) (losing ++ false ∷ [])
  still first le found ino low high = found_still (λ i copy loses. IsSlotFound base i image copy loses) n copies losing None false count same ino (omega (arith, le, high)) (found ino low high)

  pub one_more : (bad : Option ℕ) (read : Result Found BadSlot) → IsSoFar base n image bad copies losing → IfOk read (λ found. IsSlotFound base (n + 1) image (copy_in found) (is_beside found))
      → IfErr read (λ _. IsGoodInode base (n + 1) image → ⊥) → IsSoFar base (n + 1) image (first_bad bad (n + 1) read) (copies ++ copy_kept bad read ∷ []) (losing ++ loses_kept bad read ∷ [])
  one_more None (Ok found) so ok err = (
    λ e. found_more (λ i copy loses. IsSlotFound base i image copy loses) n copies losing (copy_in found) (is_beside found) count same (so.0 refl) ok,
    λ first e. absurd cc,
  )
  one_more None (Err wrong) so ok err = (
    λ e. absurd cc,
    λ first e.
        let is : n + 1 ≡ first = cc in (
          omega (arith, is),
          omega (arith, is),
          subst (λ (i : ℕ). IsGoodInode base i image → ⊥) is err,
          still first (omega (arith, is)) (λ ino low high. so.0 refl ino low (omega (arith, high, is))),
          λ ino le. none_behind copies ino (none_past copies n ino count (omega (arith, le, is))),
        ),
  )
  one_more (Some least) read so ok err = (
    λ e. absurd cc,
    λ first e.
        let is : least ≡ first = cc in
        let old = so.1 first (ap_some is) in
        (old.0, omega (arith, old.1), old.2, still first (omega (arith, old.1)) old.3, λ ino le. none_behind copies ino (old.4 ino le)),
  )
    where
      ap_some : {a b : ℕ} → a ≡ b → Some a ≡ Some b
      ap_some e = (λ j. Some (e j))

-- the tables of none are read yet
pub push_unread : (copies : List (Option InodeCopy)) (copy : Option InodeCopy) → ((i : ℕ) → IfSome (get_or copies i None) IsUnread) → IfSome copy IsUnread → (i : ℕ) → IfSome (get_or (copies ++ copy ∷ []) i None) IsUnread
push_unread [] copy all new zero = new
push_unread [] copy all new (suc i) = tt
push_unread (one ∷ copies) copy all new zero = all 0
push_unread (one ∷ copies) copy all new (suc i) = push_unread copies copy (λ j. all (suc j)) new i

unread : (ino : ℕ) (copy : Option InodeCopy) → IfSome copy (λ one. IsSlotOf ino one) → IfSome copy (λ one. one.more ≡ []) → IfSome copy IsUnread
unread ino None own more = tt
unread ino (Some copy) own more = record { slot = own.slot; more = more }

pub kept_unread : (base ino : ℕ) (image : List ℕ) (bad : Option ℕ) (read : Result Found BadSlot) → IfOk read (λ found. IsSlotFound base ino image (copy_in found) (is_beside found))
    → IfOk read (λ found. IfSome (copy_in found) (λ copy. copy.more ≡ [])) → IfSome (copy_kept bad read) IsUnread
kept_unread base ino image None (Ok found) ok more = unread ino (copy_in found) ok.own more
kept_unread base ino image None (Err wrong) ok more = tt
kept_unread base ino image (Some first) read ok more = tt
