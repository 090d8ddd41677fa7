-- Which of two versions is the newer one, by their vectors alone.
use Rattle.std.specs.Prelude.{◌≡◌, List}
use Rattle.locus_ids.specs.declared.config.Config.{Config}
use Rattle.locus_ids.specs.declared.ids.FileId.{FileId}
use Rattle.locus_ids.specs.declared.ids.Stamp.{Stamp}
use Rattle.commit_graph.specs.Vectors.{vector_of}
use Rattle.commit_graph.specs.Versions.{is_proper_ancestor}
use Rattle.role_steps.specs.Versions.{is_below}
use Rattle.the_run.specs.Worlds.{Line}
use Rattle.tree_model.specs.Histories.{history}
use Rattle.tree_laws.specs.Instances.{Stands}
use Rattle.tree_laws.specs.Printed.{entries}

-- of two versions of a file one is a proper ancestor of the other exactly where its vector is below the other's
abbrev pub VectorsTellNewer : Config → List Line → Type 0
VectorsTellNewer c trace = (f : FileId) (a b : Stamp) → Stands c trace f a → Stands c trace f b → is_proper_ancestor (history c (entries trace)) f a b ≡ is_below (vector_of (history c (entries trace)) f a) (vector_of (history c (entries trace)) f b)
