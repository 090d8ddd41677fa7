-- What the answers to makes rest on.
use Rattle.std.specs.Prelude.{ℕ, ◌≡◌, true, List, Some}
use Rattle.locus_ids.specs.declared.config.Config.{Config}
use Rattle.locus_ids.specs.declared.ids.EpochId.{EpochId}
use Rattle.locus_ids.specs.declared.ids.Kind.{Kind}
use Rattle.locus_ids.specs.declared.ids.Serial.{Serial}
use Rattle.locus_ids.specs.declared.sites.Sites.{Sites}
use Rattle.role_steps.specs.Views.{Frame}
use Rattle.role_steps.specs.declared.synchronizing.SyncTable.{SyncTable}
use Rattle.the_run.specs.Worlds.{Line}
use Rattle.tree_model.specs.Opening.{lacks_numbers}
use Rattle.tree_model.specs.Tree.{tree_of}
use Rattle.tree_laws.specs.Instances.{IsFull}
use Rattle.tree_laws.specs.Packets.{MakesNow}
use Rattle.tree_laws.specs.Printed.{entries}
use Rattle.store_laws.specs.of_tree_laws.Syncs.Making.{MakesAreSaid}
use Rattle.store_laws.specs.of_tree_laws.Syncs.Serving.{Serving}
use Rattle.store_laws.specs.OneTree.Rest.{Past}
use Rattle.store_laws.specs.OneTree.Roles.{Ready, TableHere}

pub record MadeRests (c : Config) : Type 0 where
  -- a site serves the groups that it synchronizes
  pub serves : (n : ℕ) (trace : List Line) (f : Frame) (t : SyncTable) → Ready c trace f → TableHere c trace f t → Serving c n trace f t
  -- makes are asked as the words of their calls say
  pub said : (trace : List Line) → Past c trace → MakesAreSaid c trace
  -- where all numbers of a site are used while it is asked a make, the tree counts none that is left: each is of a file that the site
  -- has, or of a make that is underway
  pub lacks : (trace : List Line) → Past c trace → (e : EpochId) (ss : ℕ) (i : Serial) (group : ℕ) (set : Sites) (k : Kind) → MakesNow c trace e ss i group set k → IsFull c trace e ss group → lacks_numbers (tree_of c e group (entries trace)) (Some ss) ≡ true
