-- Numbers of inodes.
use Rattle.std.specs.Prelude.{ℕ, ◌≤◌}
use Rattle.std.specs.List.{AllByRecursion}
use Rattle.locus_ids.specs.Sizes.{inodes_max}
use Rattle.role_steps.specs.declared.synchronizing.FileRow.{FileRow}
use Rattle.role_steps.specs.declared.synchronizing.SyncTable.{SyncTable}

-- a pack has 1,024 inodes
abbrev pub IsInodeNumber : ℕ → Type 0
IsInodeNumber n = (1 ≤ n) × (n ≤ inodes_max)

-- the number of each file in the table is that of an inode
abbrev pub AreInodes : SyncTable → Type 0
AreInodes t = AllByRecursion (λ (r : FileRow). IsInodeNumber r.ino) t.files
