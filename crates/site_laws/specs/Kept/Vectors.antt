-- The kept versions by written vectors alone.
use Rattle.std.specs.Prelude.{◌≡◌, Bool, not, List, filter}
use Rattle.std.specs.List.{list_any}
use Rattle.locus_ids.specs.declared.config.Config.{Config}
use Rattle.locus_ids.specs.declared.ids.EpochId.{EpochId}
use Rattle.locus_ids.specs.declared.ids.FileId.{FileId}
use Rattle.locus_ids.specs.declared.ids.Stamp.{Stamp}
use Rattle.commit_graph.specs.declared.history.Version.{Version}
use Rattle.commit_graph.specs.Vectors.{vector_of}
use Rattle.role_steps.specs.Versions.{is_below}
use Rattle.the_run.specs.Worlds.{World}
use Rattle.site_laws.specs.Kept.Printed.{versions_of, known_in, kept_of}

-- the written vector of the one is below that of the other, as a synchronization site compares them
abbrev pub has_below : List Version → FileId → Stamp → Stamp → Bool
has_below history file a b = is_below (vector_of history file a) (vector_of history file b)

-- those of the stamps whose written vector is below that of no other of them, in their order
abbrev pub kept_by_vectors : List Version → FileId → List Stamp → List Stamp
kept_by_vectors history file known = filter (λ a. not (list_any (has_below history file a) known)) known

-- what an epoch keeps of a file by ancestors is what it keeps by written vectors
abbrev pub VectorsKeepTheSame : Config → World → Type 0
VectorsKeepTheSame c w = (e : EpochId) (file : FileId) → kept_of c w e file ≡ kept_by_vectors (versions_of c w) file (known_in c w e file)
