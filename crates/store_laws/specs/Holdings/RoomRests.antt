-- The laws of every run on which the room of a storage site rests, as premises on a trace.
use Rattle.std.specs.Prelude.{◌<◌, ◌≤◌, List}
use Rattle.locus_ids.specs.declared.config.Config.{Config}
use Rattle.locus_ids.specs.declared.ids.CallId.{CallId}
use Rattle.locus_ids.specs.declared.ids.EpochId.{EpochId}
use Rattle.locus_ids.specs.declared.ids.FileId.{FileId}
use Rattle.locus_ids.specs.declared.ids.Stamp.{Stamp}
use Rattle.locus_ids.specs.Sizes.{inode_span, sites_max}
use Rattle.tree_laws.specs.of_the_run.Worlds.{Line}
use Rattle.tree_laws.specs.of_lawful_trace.TreeRows.{IsCallIn}
use Rattle.tree_laws.specs.Instances.{Stands}
use Rattle.tree_laws.specs.Printed.{entries}
use Rattle.store_laws.specs.Holdings.Below.{LawsBelow}

pub record RoomRests (c : Config) (trace : List Line) : Type 0 where
  pub laws : LawsBelow c trace
  -- the inode numbers of files have 16 bits
  pub narrow : (f : FileId) (stamp : Stamp) → Stands c trace f stamp → f.ino < inode_span
  -- calls are of the sixteen sites
  pub sites : (e : EpochId) (d : CallId) → IsCallIn (entries trace) e d → d.site ≤ sites_max
