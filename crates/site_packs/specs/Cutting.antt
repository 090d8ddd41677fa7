-- The files of which both gates are open, and what a cut leaves of the packs.
use Rattle.std.specs.Prelude.{◌≡◌, ℕ, ◌+◌, ◌*◌, Bool, cond, List, [], ◌∷◌, ◌++◌, length, map, is_some}
use Rattle.locus_ids.specs.declared.ids.FileId.{FileId}
use Rattle.disk_model.specs.Cut.{Cut}
use Rattle.disk_model.specs.Images.{Torn}
use Rattle.gate_switch.specs.Gates.{new_gate}
use Rattle.pack_layout.specs.Layout.{layout, area_at, area_length}
use Rattle.pack_slots.specs.Cutting.{losing_inodes, closings_left}
use Rattle.inode_pack.specs.Cutting.{are_both_open}
use Rattle.role_steps.specs.Tables.{with_row}
use Rattle.role_steps.specs.Storage.{copy_key}
use Rattle.role_steps.specs.declared.copies.FileCopy.{FileCopy}
use Rattle.site_packs.specs.declared.faults.CommitFault.{CommitFault}
use Rattle.site_packs.specs.declared.faults.CommitFault.TheVariants.{Disk, Cut as CutOff, NoSpace, Unfit, NoMemory}
use Rattle.site_packs.specs.Copies.{copies_on}
use Rattle.site_packs.specs.Packs.{PacksState, groups_of, copy_at}
use Rattle.site_packs.specs.Committing.{MayBeLeft}
use Rattle.site_packs.specs.Mounting.{AreSound, KeepsCopies}

abbrev pub file_in : ℕ → ℕ → FileId
file_in group ino = record { group = group; ino = ino }

-- those of the packs of these groups, whose areas stand one behind the other
abbrev pub both_behind : ℕ → List ℕ → List ℕ → List FileId
both_behind nth [] image = []
both_behind nth (group ∷ groups) image = map (file_in group) (losing_inodes (area_at nth) image) ++ both_behind (nth + 1) groups image

-- The files of a site that has packs of these groups of which both gates are open: by group and inode, ascending.
abbrev pub both_open_on : List ℕ → List ℕ → List FileId
both_open_on groups image = both_behind 0 groups image

-- What a commit or an adoption of so many pages and tables leaves that was cut off after so many calls: the new copy where its
-- gate is open.
pub record IsCut (p : PacksState) (made : FileCopy) (blocks : ℕ) (how : Cut) (passed : ℕ) (old new : List ℕ) : Type 0 where
  pub left : MayBeLeft p made old new
  pub copies : copies_on (groups_of p) new ≡ cond (new_gate blocks how passed) (with_row copy_key made (copies_on (groups_of p) old)) (copies_on (groups_of p) old)
  pub both : both_open_on (groups_of p) new ≡ cond (are_both_open (is_some (copy_at p old made.file)) blocks how passed) (made.file ∷ []) []

-- the pages and tables that the write of a version was to write, and whether it was to replace another one
abbrev pub HasSize : ℕ → Bool → CommitFault → Type 0
HasSize blocks replaces Disk = Unit {0}
HasSize blocks replaces (CutOff size) = (size.blocks ≡ blocks) × (size.replaces ≡ replaces)
HasSize blocks replaces NoSpace = Unit {0}
HasSize blocks replaces Unfit = Unit {0}
HasSize blocks replaces NoMemory = Unit {0}

-- what a mount of these packs leaves that was cut off after so many calls: the losing gates that are still open
pub record IsCutBehind (nth : ℕ) (groups : List ℕ) (how : Cut) (passed : ℕ) (old new : List ℕ) : Type 0 where
  pub outside : Torn (area_at nth) (area_length * length groups) old new
  pub both : both_behind nth groups new ≡ closings_left how passed (both_behind nth groups old)

pub record IsCutMount (site : ℕ) (groups : List ℕ) (how : Cut) (passed : ℕ) (old new : List ℕ) : Type 0 where
  pub kept : AreSound site groups old → KeepsCopies site groups old new
  pub outside : Torn layout.label_length (area_length * length groups) old new
  pub both : both_open_on groups new ≡ closings_left how passed (both_open_on groups old)
