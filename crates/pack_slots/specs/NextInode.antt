-- What the slots of the next inode add to what was read.
use Rattle.std.specs.Prelude.{◌≡◌, ℕ, List, [], ◌∷◌, ◌++◌, Result, IfOk, IfErr, IfSome}
use Rattle.pack_layout.specs.declared.slot.BadSlot.{BadSlot}
use Rattle.pack_slots.specs.declared.inodes.Inodes.{Inodes}
use Rattle.pack_slots.specs.declared.slots.Found.{Found}
use Rattle.pack_slots.specs.Slots.{IsGoodInode, IsSlotFound}
use Rattle.pack_slots.specs.Found.{copy_in, is_beside, copy_kept, loses_kept, first_bad}

-- what the slots of this inode say is added to what those before it say
pub record AddsInode (base ino : ℕ) (image : List ℕ) (old new : Inodes) : Type 0 where
  pub read : Result Found BadSlot
  pub copies : new.copies.items ≡ old.copies.items ++ copy_kept old.bad read ∷ []
  pub losing : new.losing.items ≡ old.losing.items ++ loses_kept old.bad read ∷ []
  pub bad : new.bad ≡ first_bad old.bad ino read
  pub found : IfOk read (λ found. IsSlotFound base ino image (copy_in found) (is_beside found))
  pub unread : IfOk read (λ found. IfSome (copy_in found) (λ copy. copy.more ≡ []))
  pub wrong : IfErr read (λ _. IsGoodInode base ino image → ⊥)
