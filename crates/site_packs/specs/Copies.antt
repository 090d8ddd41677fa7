-- The copies of files that an image of a disk holds: what each inode of each pack of the site has there.
use Rattle.std.specs.Prelude.{ℕ, zero, suc, ◌+◌, List, [], ◌∷◌, ◌++◌, Option, None, Some}
use Rattle.locus_ids.specs.Sizes.{inodes_max}
use Rattle.pack_layout.specs.Layout.{area_at}
use Rattle.pack_slots.specs.of_inode_switch.View.{Version, view}
use Rattle.role_steps.specs.declared.copies.FileCopy.{FileCopy}

-- the copy that a version of an inode is
unfoldable pub copy_in : ℕ → ℕ → Version → FileCopy
copy_in group ino v = record {
  file = record { group = group; ino = ino };
  kind = v.fields.kind;
  set = v.fields.set;
  stamp = v.fields.stamp;
  vector = v.fields.vector;
  content = v.content;
}

abbrev pub with_version : ℕ → ℕ → Option Version → List FileCopy → List FileCopy
with_version group ino None copies = copies
with_version group ino (Some v) copies = copy_in group ino v ∷ copies

-- those of so many inodes from this one on
abbrev pub copies_from : ℕ → (ℕ → Option Version) → ℕ → ℕ → List FileCopy
copies_from group held ino zero = []
copies_from group held ino (suc left) = with_version group ino (held ino) (copies_from group held (ino + 1) left)

-- those of a pack, whose area begins at `base`
unfoldable pub copies_in : ℕ → ℕ → List ℕ → List FileCopy
copies_in base group image = copies_from group (view image base) 1 inodes_max

-- those of the packs of these groups, whose areas stand one behind the other
abbrev pub copies_behind : ℕ → List ℕ → List ℕ → List FileCopy
copies_behind nth [] image = []
copies_behind nth (group ∷ groups) image = copies_in (area_at nth) group image ++ copies_behind (nth + 1) groups image

-- The copies of a site that has packs of these groups, as role steps see them: by group and inode, ascending.
abbrev pub copies_on : List ℕ → List ℕ → List FileCopy
copies_on groups image = copies_behind 0 groups image
