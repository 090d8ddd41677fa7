-- Versions that may stand in a slot of a pack.
use Rattle.std.specs.Prelude.{length}
use Rattle.locus_ids.specs.declared.ids.FileId.{FileId}
use Rattle.stored_versions.specs.Versions.{IsVersion}
use Rattle.stored_versions.specs.declared.new_version.NewVersion.{NewVersion}
use Rattle.tree_model.specs.Files.{HeldVersion}
use Rattle.rest_laws.specs.Fits.Inodes.{IsInodeNumber}

-- the version as a pack is given it, beside its content
abbrev pub given : HeldVersion → NewVersion
given v = record { kind = v.kind; set = v.set; stamp = v.stamp; vector = v.vector }

-- The version of the file may stand in a slot: the number is an inode's, the set isn't empty, the content is no longer than a file may
-- be, and the stamp and the vector are some that a slot may say.
pub record FitsSlot (f : FileId) (v : HeldVersion) : Type 0 where
  pub number : IsInodeNumber f.ino
  pub version : IsVersion (given v) (length v.content)
