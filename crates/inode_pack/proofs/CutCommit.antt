-- What a commit leaves that was cut off, from what the switch of its inode leaves.
use Rattle.std.proofs.Common.{◌≡◌, ℕ, ◌≤◌, Bool, true, false, cond, List, [], ◌∷◌, refl, sym, ◌∙◌, ap, arith}
use Rattle.std.specs.Prelude.{is_some, ◌&&◌}
use Rattle.locus_ids.specs.Sizes.{inodes_max}
use Rattle.disk_model.specs.Cut.{Cut}
use Rattle.pack_layout.specs.declared.half.Half.{Half}
use Rattle.pack_layout.specs.declared.half.Half.TheVariants.{First, Second}
use Rattle.pack_layout.specs.Layout.{slot_at, other_half}
use Rattle.gate_switch.specs.Switch.{Piece}
use Rattle.gate_switch.specs.Gates.{new_gate, old_gate}
use Rattle.inode_switch.specs.View.{is_open}
use Rattle.inode_switch.specs.Cutting.{IsCutReplacing}
use Rattle.inode_pack.specs.Pack.{PackState, Shows}
use Rattle.pack_slots.specs.Copies.{copy_of, AreCopies}
use Rattle.pack_slots.specs.Mounting.{has_losing_gate}
use Rattle.inode_pack.specs.Cutting.{are_both_open}
use Rattle.pack_slots.specs.Cutting.{losing_inodes}
use Rattle.pack_slots.proofs.Gates.{found_gates}
use Rattle.pack_slots.proofs.LosingLists.{losing_alone, losing_nowhere}

-- a pack that is shown has no two open gates of an inode
pub shows_none : (pack : PackState) (image : List ℕ) → AreCopies pack.copies → Shows pack image → (ino : ℕ) → 1 ≤ ino → ino ≤ inodes_max → has_losing_gate pack.base ino image ≡ false
shows_none pack image are shows ino low high = found_gates pack.base ino image (copy_of pack.copies ino) false (record { says = (shows.copies ino low high).0; own = are.own ino; tables = (shows.copies ino low high).1 })

pub shows_no_losing : (pack : PackState) (image : List ℕ) → AreCopies pack.copies → Shows pack image → losing_inodes pack.base image ≡ []
shows_no_losing pack image are shows = losing_nowhere pack.base image 1 inodes_max (λ i low high. shows_none pack image are shows i low (omega arith))

shuffle : (a b c : Bool) → (a && (b && c)) ≡ (b && (a && c))
shuffle true true c = refl
shuffle true false c = refl
shuffle false true c = refl
shuffle false false c = refl

turned : (a b : Bool) → (a && b) ≡ (b && a)
turned true true = refl
turned true false = refl
turned false true = refl
turned false false = refl

-- both gates by that which is written and the other one
both_gates : (base ino : ℕ) (half : Half) (image : List ℕ) (a b : Bool) → is_open image (slot_at base ino half) ≡ a → is_open image (slot_at base ino (other_half half)) ≡ b → has_losing_gate base ino image ≡ (a && b)
both_gates base ino First image a b mine other = (λ i. mine i && other i)
both_gates base ino Second image a b mine other = (λ i. other i && mine i) ∙ turned b a

module _ (pack : PackState) (ino : ℕ) (half : Half) (pieces : List Piece) (pages : ℕ) (how : Cut) (passed : ℕ) (old new : List ℕ) (are : AreCopies pack.copies) (shows : Shows pack old) (low : 1 ≤ ino) (high : ino ≤ inodes_max)
    (was : is_some (copy_of pack.copies ino) ≡ is_open old (slot_at pack.base ino (other_half half))) (cut : IsCutReplacing pack.base ino half pieces pages how passed old new) where
  own : has_losing_gate pack.base ino new ≡ are_both_open (is_some (copy_of pack.copies ino)) pages how passed
  own =
      both_gates pack.base ino half new (new_gate pages how passed) (is_open old (slot_at pack.base ino (other_half half)) && old_gate pages how passed) cut.mine cut.other
      ∙ shuffle (new_gate pages how passed) (is_open old (slot_at pack.base ino (other_half half))) (old_gate pages how passed)
      ∙ ap (λ (b : Bool). are_both_open b pages how passed) (sym was)

  others : (i : ℕ) → 1 ≤ i → i ≤ inodes_max → (i ≡ ino → ⊥) → has_losing_gate pack.base i new ≡ false
  others i from to ne =
      (λ j. cut.rest i First from to ne j && cut.rest i Second from to ne j)
      ∙ shows_none pack old are shows i from to

  pub cut_both : losing_inodes pack.base new ≡ cond (are_both_open (is_some (copy_of pack.copies ino)) pages how passed) (ino ∷ []) []
  cut_both = losing_alone pack.base new ino (are_both_open (is_some (copy_of pack.copies ino)) pages how passed) low high own others
