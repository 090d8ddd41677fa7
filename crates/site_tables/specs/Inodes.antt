-- Tables whose numbers are those of inodes.
use Rattle.std.specs.Prelude.{◌≤◌}
use Rattle.std.specs.List.{AllByRecursion}
use Rattle.locus_ids.specs.Sizes.{inodes_max}
use Rattle.role_steps.specs.declared.synchronizing.FileRow.{FileRow}
use Rattle.role_steps.specs.declared.synchronizing.SyncTable.{SyncTable}

-- the number of a file is that of an inode
abbrev pub IsInode : FileRow → Type 0
IsInode r = (1 ≤ r.ino) × (r.ino ≤ inodes_max)

-- so are all in a table
abbrev pub AreInodes : SyncTable → Type 0
AreInodes t = AllByRecursion IsInode t.files
