-- The inodes of which both gates are open, and what a cut mount leaves of them.
use Rattle.std.specs.Prelude.{◌≡◌, ℕ, zero, suc, ◌+◌, true, false, cond, List, [], ◌∷◌, ◌++◌}
use Rattle.locus_ids.specs.Sizes.{inodes_max}
use Rattle.disk_model.specs.Cut.{Cut}
use Rattle.inode_switch.specs.of_gate_switch.Gates.{gate_left}
use Rattle.pack_slots.specs.Mounting.{has_losing_gate, KeepsPack}

-- of so many inodes from this one on those of which both slots are open
unfoldable pub losing_from : ℕ → List ℕ → ℕ → ℕ → List ℕ
losing_from base image ino zero = []
losing_from base image ino (suc count) = cond (has_losing_gate base ino image) (ino ∷ []) [] ++ losing_from base image (ino + 1) count

abbrev pub losing_inodes : ℕ → List ℕ → List ℕ
losing_inodes base image = losing_from base image 1 inodes_max

-- what is still open of these gates, which are closed one after another: each closing is a write and a sync
abbrev pub closings_left : {A : Type 0} → Cut → ℕ → List A → List A
closings_left how passed [] = []
closings_left how zero (x ∷ xs) = cond (gate_left how true true false) (x ∷ xs) xs
closings_left how (suc zero) (x ∷ xs) = cond (gate_left how false true false) (x ∷ xs) xs
closings_left how (suc (suc passed)) (x ∷ xs) = closings_left how passed xs

-- what a mount leaves that was cut off after so many calls
pub record IsCutMount (base group site : ℕ) (how : Cut) (passed : ℕ) (old new : List ℕ) : Type 0 where
  pub kept : KeepsPack base group site old new
  pub both : losing_inodes base new ≡ closings_left how passed (losing_inodes base old)
