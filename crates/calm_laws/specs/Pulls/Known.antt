-- How the versions that are known in an epoch stand to the only kept one.
use Rattle.std.specs.Prelude.{ℕ, ◌≡◌, ◌⊎◌, true, List, [], ◌∷◌}
use Rattle.locus_ids.specs.declared.config.Config.{Config}
use Rattle.locus_ids.specs.declared.ids.EpochId.{EpochId}
use Rattle.locus_ids.specs.declared.ids.FileId.{FileId}
use Rattle.locus_ids.specs.declared.ids.Stamp.{Stamp}
use Rattle.commit_graph.specs.Vectors.{vector_of}
use Rattle.role_steps.specs.Versions.{is_below}
use Rattle.the_run.specs.Worlds.{Line}
use Rattle.tree_model.specs.Histories.{history}
use Rattle.tree_model.specs.Tree.{kept_in}
use Rattle.tree_laws.specs.Instances.{IsKnown}
use Rattle.tree_laws.specs.Printed.{entries}

-- the written vector of the version with this stamp
abbrev pub written : Config → List Line → FileId → Stamp → List ℕ
written c trace f stamp = vector_of (history c (entries trace)) f stamp

-- of a file with one kept version each known version is that one, or its vector is below that of the kept one
abbrev pub KnownAreUnder : Config → List Line → Type 0
KnownAreUnder c trace = (e : EpochId) (f : FileId) (only known : Stamp) → kept_in c (entries trace) e f ≡ only ∷ [] → IsKnown c trace e f known → (known ≡ only) ⊎ (is_below (written c trace f known) (written c trace f only) ≡ true)
