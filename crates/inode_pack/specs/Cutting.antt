-- What a cut leaves of a pack: which version of an inode it has, and the inodes of which both gates are open.
use Rattle.std.specs.Prelude.{◌≡◌, ℕ, ◌&&◌, Bool, cond, List, [], ◌∷◌, is_some}
use Rattle.disk_model.specs.Cut.{Cut}
use Rattle.gate_switch.specs.Gates.{new_gate, old_gate}
use Rattle.inode_switch.specs.View.{Version}
use Rattle.inode_switch.specs.Cutting.{IsViewBy}
use Rattle.pack_slots.specs.Copies.{copy_of}
use Rattle.pack_slots.specs.Cutting.{losing_inodes}
use Rattle.inode_pack.specs.Pack.{PackState}
use Rattle.inode_pack.specs.Committing.{MayBeLeft}

-- both gates of an inode are open, of which a version is written with so many pages and tables, in the place of another or not
abbrev pub are_both_open : Bool → ℕ → Cut → ℕ → Bool
are_both_open replaces blocks how passed = replaces && (new_gate blocks how passed && old_gate blocks how passed)

-- What a commit or an adoption leaves that was cut off after so many calls: the new version where its gate is open.
pub record IsCutCommit (pack : PackState) (ino : ℕ) (made : Version) (blocks : ℕ) (how : Cut) (passed : ℕ) (old new : List ℕ) : Type 0 where
  pub left : MayBeLeft pack ino made old new
  pub view : IsViewBy (new_gate blocks how passed) pack.base ino made old new
  pub both : losing_inodes pack.base new ≡ cond (are_both_open (is_some (copy_of pack.copies ino)) blocks how passed) (ino ∷ []) []
