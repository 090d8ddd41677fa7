-- Which numbers a site may give to new inodes.
use Rattle.std.specs.Prelude.{◌≡◌, ℕ, ◌+◌, ◌-◌, ◌*◌, ◌≤◌, ◌==◌, ◌&&◌, Bool, true, not, List, is_none}
use Rattle.std.specs.List.{list_any}
use Rattle.locus_ids.specs.Sizes.{site_inodes}
use Rattle.inode_pack.specs.Pack.{PackState}
use Rattle.pack_slots.specs.Copies.{copy_of}

-- the number is in no slot, and not among those held
abbrev pub is_unused : PackState → List ℕ → ℕ → Bool
is_unused pack held ino = is_none (copy_of pack.copies ino) && not (list_any (λ one. one == ino) held)

-- one of the 64 numbers of the site that is unused
pub record IsNewIno (pack : PackState) (held : List ℕ) (ino : ℕ) : Type 0 where
  pub low : site_inodes * (pack.site - 1) + 1 ≤ ino
  pub high : ino ≤ site_inodes * pack.site
  pub unused : is_unused pack held ino ≡ true
