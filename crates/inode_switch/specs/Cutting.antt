-- What a replacement leaves that was cut off.
use Rattle.std.specs.Prelude.{ℕ, ◌≤◌, ◌≡◌, ◌≢◌, ◌&&◌, Bool, true, false, List}
use Rattle.locus_ids.specs.Sizes.{inodes_max}
use Rattle.disk_model.specs.Cut.{Cut}
use Rattle.gate_switch.specs.Switch.{Piece}
use Rattle.gate_switch.specs.Gates.{new_gate, old_gate}
use Rattle.pack_layout.specs.declared.half.Half.{Half}
use Rattle.pack_layout.specs.Layout.{slot_at, other_half}
use Rattle.inode_switch.specs.View.{Version, is_open, SameView, Replaced}
use Rattle.inode_switch.specs.Replace.{made_version}

-- the new view where the new gate is open, and else the old one
abbrev pub IsViewBy : Bool → ℕ → ℕ → Version → List ℕ → List ℕ → Type 0
IsViewBy true base ino made old new = Replaced base ino made old new
IsViewBy false base ino made old new = SameView base old new

-- The view, and which gates are open, after so many calls passed and the next one was cut off; so many pages and tables are
-- written.
pub record IsCutReplacing (base ino : ℕ) (half : Half) (pieces : List Piece) (pages : ℕ) (how : Cut) (passed : ℕ) (old new : List ℕ) : Type 0 where
  pub view : IsViewBy (new_gate pages how passed) base ino (made_version base ino half pieces old) old new
  pub mine : is_open new (slot_at base ino half) ≡ new_gate pages how passed
  pub other : is_open new (slot_at base ino (other_half half)) ≡ (is_open old (slot_at base ino (other_half half)) && old_gate pages how passed)
  pub rest : (i : ℕ) (each : Half) → 1 ≤ i → i ≤ inodes_max → i ≢ ino → is_open new (slot_at base i each) ≡ is_open old (slot_at base i each)
