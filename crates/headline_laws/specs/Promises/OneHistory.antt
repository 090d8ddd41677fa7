-- The history of the trace is one, by whichever name the laws call it.
use Rattle.std.specs.Prelude.{◌≡◌, List, ◌++◌, filter, map}
use Rattle.locus_ids.specs.declared.config.Config.{Config}
use Rattle.locus_ids.specs.declared.ids.FileId.{FileId}
use Rattle.commit_graph.specs.Versions.{same_file}
use Rattle.commit_graph.specs.declared.history.Version.{Version}
use Rattle.the_run.specs.Worlds.{World}
use Rattle.tree_model.specs.Histories.{format_versions, history}
use Rattle.site_laws.specs.Vectors.HistoryCommits.{commits_of, real_parents}
use Rattle.site_laws.specs.Vectors.Written.{past_of}
use Rattle.site_laws.specs.Kept.Printed.{versions_of}
use Rattle.row_laws.specs.Shown.{trace_of}

-- the version with those of its parents that were committed: the format's isn't
abbrev pub with_committed : Version → Version
with_committed v = record v { parents = real_parents v.parents }

-- Laws of written vectors speak of the commits of a file, laws of epochs of all versions. Both are of the history of these records: of
-- its commits, the latest first, before which stand the format's versions.
pub record HistoryIsOne (c : Config) (w : World) : Type 0 where
  pub commits : List Version
  pub of_trace : history c (trace_of w) ≡ commits ++ format_versions 0 c.packs
  pub of_files : (f : FileId) → commits_of f (past_of w.trace) ≡ map with_committed (filter (λ (v : Version). same_file v.file f) commits)
  pub of_versions : versions_of c w ≡ history c (trace_of w)
