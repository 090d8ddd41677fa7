-- What each disk holds, by the trace.
use Rattle.std.specs.Prelude.{ℕ, ◌≡◌, ◌<◌, Some}
use Rattle.std.specs.Option.{option_map}
use Rattle.locus_ids.specs.declared.config.Config.{Config}
use Rattle.locus_ids.specs.declared.ids.FileId.{FileId}
use Rattle.locus_ids.specs.Sizes.{inode_span}
use Rattle.role_steps.specs.Storage.{copy_key}
use Rattle.role_steps.specs.Tables.{row}
use Rattle.role_steps.specs.Views.{file_key}
use Rattle.the_run.specs.Worlds.{World, Place, place_at}
use Rattle.tree_model.specs.Files.{held_version}
use Rattle.rest_laws.specs.of_site_laws.Vectors.Held.{copies_on}
use Rattle.row_laws.specs.Shown.{trace_of}
use Rattle.rest_laws.specs.of_tree_laws.Stores.{copy_for}

-- Each disk, of a running site or a stopped one, holds of each file just the version that its site has by the trace, whole: kind,
-- sites, stamp, written vector, bytes. Inode numbers have 16 bits.
abbrev pub DisksHold : Config → World → Type 0
DisksHold c w = (s : ℕ) (p : Place) (f : FileId) → place_at w s ≡ Some p → f.ino < inode_span → row copy_key (file_key f) (copies_on p) ≡ option_map (copy_for f) (held_version c (trace_of w) s f)
