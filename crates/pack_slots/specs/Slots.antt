-- What the two slots of an inode say.
use Rattle.std.specs.Prelude.{◌≡◌, ◌≢◌, ℕ, Bool, true, false, List, Option, None, Some, Result, Ok, Err, IfSome}
use Rattle.disk_model.specs.Images.{bytes_at}
use Rattle.pack_layout.specs.of_file_content.Pages.{pages_of}
use Rattle.pack_layout.specs.declared.slot.Slot.{Slot}
use Rattle.pack_layout.specs.declared.slot.BadSlot.{BadSlot}
use Rattle.pack_layout.specs.declared.half.Half.{Half}
use Rattle.pack_layout.specs.declared.half.Half.TheVariants.{First, Second}
use Rattle.pack_layout.specs.Layout.{layout, slot_at, slot_bytes, numbers_of, NamePages, IsSlot, other_half}
use Rattle.inode_switch.specs.View.{is_open, turn, newer, counting}
use Rattle.inode_switch.specs.Replace.{IsNext}
use Rattle.inode_switch.specs.Slots.{HoldsTables}
use Rattle.pack_slots.specs.declared.inode_copy.InodeCopy.{InodeCopy}
use Rattle.pack_slots.specs.Copies.{numbers_in, IsCopy, IsSlotOf, ShowsSlot, ShowsTables}

-- a slot of this inode stands at this place
pub record HasSlot (ino place : ℕ) (image : List ℕ) : Type 0 where
  pub slot : Slot
  pub bytes : bytes_at image place layout.slot_length ≡ slot_bytes slot
  pub is : IsSlot slot
  pub own : slot.ino ≡ ino

-- the tables of a slot have these page numbers, which are different ones with the slot's own
pub record HasMore (base : ℕ) (slot : Slot) (more image : List ℕ) : Type 0 where
  pub tables : HoldsTables image base slot (numbers_of slot.pages more)
  pub pages : NamePages (pages_of slot.size) (numbers_of slot.pages more)

-- the slot at a place has its tables
pub record HasNumbers (base place : ℕ) (image : List ℕ) : Type 0 where
  pub slot : Slot
  pub more : List ℕ
  pub bytes : bytes_at image place layout.slot_length ≡ slot_bytes slot
  pub is : IsSlot slot
  pub has : HasMore base slot more image

-- it has them where it is open
abbrev pub HasTables : ℕ → ℕ → List ℕ → Type 0
HasTables base place image = is_open image place ≡ true → HasNumbers base place image

-- where the slot of an inode stands that counts
abbrev pub counting_place : ℕ → ℕ → List ℕ → Option ℕ
counting_place base ino image =
    let first = slot_at base ino First in
    let second = slot_at base ino Second in
    counting (is_open image first) (is_open image second) (newer image first second) first second

-- Each open slot of the inode is one of it, two open ones differ in their turns, and the one that counts has its tables. What
-- stands in the tables of the other one isn't asked: a crash image of a pack has it, and a mount doesn't read it.
pub record IsGoodInode (base ino : ℕ) (image : List ℕ) : Type 0 where
  pub slots : (half : Half) → is_open image (slot_at base ino half) ≡ true → HasSlot ino (slot_at base ino half) image
  pub turns : is_open image (slot_at base ino First) ≡ true → is_open image (slot_at base ino Second) ≡ true → turn image (slot_at base ino First) ≢ turn image (slot_at base ino Second)
  pub tables : (place : ℕ) → counting_place base ino image ≡ Some place → HasNumbers base place image

-- the copy is the slot that counts, at its place
pub record IsCounting (base ino : ℕ) (image : List ℕ) (copy : InodeCopy) : Type 0 where
  pub place : counting_place base ino image ≡ Some (slot_at base ino copy.half)
  pub bytes : bytes_at image (slot_at base ino copy.half) layout.slot_length ≡ slot_bytes copy.slot
  pub tables : HoldsTables image base copy.slot (numbers_in copy)

abbrev pub IsRecovered : ℕ → ℕ → List ℕ → Option InodeCopy → Type 0
IsRecovered base ino image None = counting_place base ino image ≡ None
IsRecovered base ino image (Some copy) = IsCounting base ino image copy

-- what was read at the place of a slot
abbrev pub IsRead : ℕ → ℕ → List ℕ → Result (Option Slot) BadSlot → Type 0
IsRead ino place image (Ok None) = is_open image place ≡ false
IsRead ino place image (Ok (Some slot)) = (bytes_at image place layout.slot_length ≡ slot_bytes slot) × IsSlot slot × (slot.ino ≡ ino)
IsRead ino place image (Err bad) = (is_open image place ≡ true) × (HasSlot ino place image → ⊥)

-- both slots are open, and the turn of this copy follows that of the other
pub record Wins (base ino : ℕ) (copy : InodeCopy) (image : List ℕ) : Type 0 where
  pub bytes : bytes_at image (slot_at base ino copy.half) layout.slot_length ≡ slot_bytes copy.slot
  pub beside : is_open image (slot_at base ino (other_half copy.half)) ≡ true
  pub other : HasSlot ino (slot_at base ino (other_half copy.half)) image
  pub next : IsNext (turn image (slot_at base ino (other_half copy.half))) copy.slot.turn

-- what the slots of an inode say: the copy that counts, and whether another slot is open beside it
abbrev pub SaysCopy : ℕ → ℕ → List ℕ → Option InodeCopy → Bool → Type 0
SaysCopy base ino image copy false = ShowsSlot base ino image copy
SaysCopy base ino image None true = ⊥
SaysCopy base ino image (Some copy) true = Wins base ino copy image

-- what is found in the slots alone
pub record IsSlotFound (base ino : ℕ) (image : List ℕ) (copy : Option InodeCopy) (loses : Bool) : Type 0 where
  pub says : SaysCopy base ino image copy loses
  pub own : IfSome copy (λ one. IsSlotOf ino one)

-- what is found there and in the tables of the slot that counts
pub record IsFound (base ino : ℕ) (image : List ℕ) (copy : Option InodeCopy) (loses : Bool) : Type 0 where
  pub says : SaysCopy base ino image copy loses
  pub own : IfSome copy (λ one. IsCopy ino one)
  pub tables : ShowsTables base image copy
