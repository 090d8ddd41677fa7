-- What was granted and isn't begun: it is open as it was granted.
use Rattle.std.specs.Prelude.{ℕ, ◌≡◌, List, Option}
use Rattle.locus_ids.specs.declared.config.Config.{Config}
use Rattle.locus_ids.specs.declared.ids.EpochId.{EpochId}
use Rattle.locus_ids.specs.declared.ids.FileId.{FileId}
use Rattle.locus_ids.specs.declared.ids.Mode.{Mode}
use Rattle.locus_ids.specs.declared.ids.Serial.{Serial}
use Rattle.locus_ids.specs.declared.ids.Stamp.{Stamp}
use Rattle.tree_model.specs.of_file_effects.Works.{begun}
use Rattle.tree_laws.specs.of_the_run.Worlds.{Line}
use Rattle.tree_model.specs.declared.instance.Instance.{Instance}
use Rattle.tree_model.specs.Histories.{history, stamped_content}
use Rattle.tree_laws.specs.Instances.{IsOpenAt, held_in}
use Rattle.tree_laws.specs.Printed.{entries}

-- The instance is open at its storage site with the work of its beginning, and the site holds the version on which it was
-- granted.
pub record IsAsGranted (c : Config) (trace : List Line) (e : EpochId) (i : Serial) (m : Mode) (f : FileId) (stamp : Option Stamp) (ss : ℕ) : Type 0 where
  pub at : Instance
  pub open_at : IsOpenAt c trace e i ss at
  pub file_is : at.grant.file ≡ f
  pub mode_is : at.grant.mode ≡ m
  pub work_is : at.work ≡ begun m stamp (stamped_content (history c (entries trace)) f stamp)
  pub held_is : held_in c (entries trace) e ss f ≡ stamp
