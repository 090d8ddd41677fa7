-- The number of a file that is being made.
use Rattle.std.specs.Prelude.{ℕ, ◌≡◌, true, false, List, None}
use Rattle.locus_ids.specs.declared.config.Config.{Config}
use Rattle.locus_ids.specs.declared.ids.EpochId.{EpochId}
use Rattle.locus_ids.specs.declared.ids.FileId.{FileId}
use Rattle.locus_ids.specs.declared.ids.Stamp.{Stamp}
use Rattle.tree_laws.specs.of_the_run.Worlds.{Line}
use Rattle.tree_model.specs.Opening.{is_given_by}
use Rattle.tree_model.specs.State.{is_taken}
use Rattle.tree_model.specs.Tree.{tree_of}
use Rattle.tree_laws.specs.Instances.{IsKnown, held_in}
use Rattle.tree_laws.specs.Printed.{entries}

-- The number is one that the site gives, and in the epoch the site has no version of the file, none is known, and no instance was
-- granted on it.
pub record IsFreeNumber (c : Config) (trace : List Line) (e : EpochId) (ss : ℕ) (f : FileId) : Type 0 where
  pub given : is_given_by ss f.ino ≡ true
  pub held : held_in c (entries trace) e ss f ≡ None
  pub known : (stamp : Stamp) → IsKnown c trace e f stamp → ⊥
  pub taken : is_taken (tree_of c e f.group (entries trace)) f ≡ false
