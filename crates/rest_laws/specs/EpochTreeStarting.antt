-- What a group starts with.
use Rattle.std.specs.Prelude.{ℕ, ◌≡◌, List, map, Some}
use Rattle.std.specs.List.{flat_map}
use Rattle.locus_ids.specs.declared.config.Config.{Config}
use Rattle.role_steps.specs.Reports.{brought_files}
use Rattle.role_steps.specs.Versions.{file_row, kept}
use Rattle.role_steps.specs.Views.{Frame}
use Rattle.role_steps.specs.declared.synchronizing.FileRow.{FileRow}
use Rattle.role_steps.specs.declared.synchronizing.SyncTable.{SyncTable}
use Rattle.the_run.specs.Worlds.{Line}
use Rattle.tree_model.specs.Tree.{kept_in, tree_of}
use Rattle.tree_laws.specs.Packets.{file_in}
use Rattle.tree_laws.specs.Printed.{entries}
use Rattle.tree_laws.specs.Tables.{ExactFact, row_stamp}

-- What was reported is all that was brought: the versions of the table are those that the tree knows, in its order, and of them it
-- keeps what the tree keeps; and where holders have to be exact they are.
pub record BroughtFiles (c : Config) (trace : List Line) (f : Frame) (t : SyncTable) : Type 0 where
  pub known : flat_map brought_files t.files ≡ (tree_of c f.epoch t.group (entries trace)).known
  pub kept_is : (ino : ℕ) → map row_stamp (kept (file_row t ino)) ≡ kept_in c (entries trace) f.epoch (file_in t.group ino)
  pub exact : (ino : ℕ) (r : FileRow) → file_row t ino ≡ Some r → ExactFact c trace f t.group r
