-- The directory that a mend makes of the versions that are kept: their join, in which files live again whose removal didn't
-- see what is kept of them.
use Rattle.std.specs.Prelude.{ℕ, Bool, List, [], ◌∷◌, filter, map}
use Rattle.locus_ids.specs.declared.ids.FileId.{FileId}
use Rattle.locus_ids.specs.declared.ids.Brought.{Brought}
use Rattle.commit_graph.specs.declared.history.Version.{Version}
use Rattle.commit_graph.specs.Versions.{content_of}
use Rattle.commit_graph.specs.Vectors.{vector_of}
use Rattle.dir_reconcile.specs.of_dir_format.declared.entry.Entry.{Entry}
use Rattle.dir_reconcile.specs.of_dir_format.Grammar.{dir_bytes}
use Rattle.dir_reconcile.specs.of_dir_format.Contents.{entries_of}
use Rattle.dir_reconcile.specs.declared.kept.KeptVector.{KeptVector}
use Rattle.dir_reconcile.specs.Joins.{joined_dirs}
use Rattle.dir_reconcile.specs.Rescues.{rescued, rescue_wanted}
use Rattle.tree_model.specs.State.{TreeState, kept_of, has_stamp}

abbrev pub file_in : TreeState → ℕ → FileId
file_in t ino = record { group = t.group; ino = ino }

-- the version is kept of its file
abbrev pub is_kept : List Version → TreeState → Brought → Bool
is_kept h t b = has_stamp (kept_of h t (file_in t b.ino)) b.stamp

abbrev pub vector_kept : List Version → TreeState → Brought → KeptVector
vector_kept h t b = record { ino = b.ino; vector = vector_of h (file_in t b.ino) b.stamp }

-- the vectors of the versions that are kept of all files of the group
abbrev pub kept_vectors : List Version → TreeState → List KeptVector
kept_vectors h t = map (vector_kept h t) (filter (is_kept h t) t.known)

abbrev pub joined_all : List (List Entry) → List Entry
joined_all [] = []
joined_all (ds ∷ others) = joined_dirs ds (joined_all others)

-- the join of the kept versions of a directory
abbrev pub join_of_kept : List Version → TreeState → FileId → List Entry
join_of_kept h t f = joined_all (map (λ s. entries_of (content_of h f s)) (kept_of h t f))

-- the content that a mend of the directory makes
abbrev pub joined_content : List Version → TreeState → FileId → List ℕ
joined_content h t f = dir_bytes (rescued (join_of_kept h t f) (kept_vectors h t))

-- a file of the directory wants to live again
abbrev pub wants_rescue_in : List Version → TreeState → FileId → Bool
wants_rescue_in h t f = rescue_wanted (join_of_kept h t f) (kept_vectors h t)
