-- What a line that is told does to the version of a file that a site holds.
use Rattle.std.specs.Prelude.{ℕ, ◌≡◌, false, List}
use Rattle.locus_ids.specs.declared.config.Config.{Config}
use Rattle.locus_ids.specs.declared.ids.FileId.{FileId}
use Rattle.locus_ids.specs.declared.ids.Stamp.{Stamp}
use Rattle.commit_graph.specs.Vectors.{vector_of}
use Rattle.trace_book.specs.declared.record.Record.TheVariants as says
use Rattle.role_steps.specs.Versions.{is_below}
use Rattle.role_steps.specs.Views.{Told, Shown}
use Rattle.the_run.specs.Worlds.{Line}
use Rattle.tree_model.specs.Histories.{history}
use Rattle.tree_laws.specs.Instances.{Stands}
use Rattle.tree_laws.specs.Printed.{entries}

-- the site commits this version of the file
abbrev pub MakesVersion : ℕ → FileId → Stamp → Told → Type 0
MakesVersion site f s (Shown (says.Commit file at stamp parents content)) = (file ≡ f) × (at ≡ site) × (stamp ≡ s)
MakesVersion site f s _ = ⊥

-- the site adopts a version of the file
abbrev pub AdoptsFile : ℕ → FileId → Told → Type 0
AdoptsFile site f (Shown (says.Adopt file at stamp)) = (file ≡ f) × (at ≡ site)
AdoptsFile site f _ = ⊥

-- what is committed is below no version that stood before
abbrev pub NewAreNotBelow : Config → List Line → List Line → Told → Type 0
NewAreNotBelow c old new x = (site : ℕ) (f : FileId) (s : Stamp) → MakesVersion site f s x → (other : Stamp) → Stands c old f other → is_below (vector_of (history c (entries new)) f s) (vector_of (history c (entries old)) f other) ≡ false
