-- What the steps of a storage site still rest on of every run, beside the laws of stamps and packs: where sites, calls and inode numbers lie.
use Rattle.std.specs.Prelude.{ℕ, ◌≡◌, ◌≤◌, ◌<◌, Some, List}
use Rattle.locus_ids.specs.declared.config.Config.{Config}
use Rattle.locus_ids.specs.declared.ids.CallId.{CallId}
use Rattle.locus_ids.specs.declared.ids.EpochId.{EpochId}
use Rattle.locus_ids.specs.declared.ids.FileId.{FileId}
use Rattle.locus_ids.specs.declared.ids.Stamp.{Stamp}
use Rattle.locus_ids.specs.Sizes.{inode_span, sites_max}
use Rattle.the_run.specs.Worlds.{Line}
use Rattle.tree_model.specs.Epochs.{epoch_of}
use Rattle.lawful_trace.specs.TreeRows.{IsCallIn}
use Rattle.tree_laws.specs.Printed.{entries}
use Rattle.tree_laws.specs.Instances.{Stands}

pub record PlainRests (c : Config) (trace : List Line) : Type 0 where
  -- the inode numbers of files have 16 bits
  pub narrow : (f : FileId) (stamp : Stamp) → Stands c trace f stamp → f.ino < inode_span
  -- who is in an epoch is one of sites 1 to 16
  pub places : (e : EpochId) (site : ℕ) → epoch_of (entries trace) site ≡ Some e → (1 ≤ site) × (site ≤ sites_max)
  -- calls are of sites 1 to 16
  pub sites : (e : EpochId) (d : CallId) → IsCallIn (entries trace) e d → d.site ≤ sites_max
