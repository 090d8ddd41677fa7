-- The versions of files by the records so far, and which of them each site has.
use Rattle.std.specs.Prelude.{ℕ, ◌+◌, ◌==◌, ◌&&◌, List, [], ◌∷◌, Option, None, Some, cond}
use Rattle.locus_ids.specs.declared.config.Config.{Config}
use Rattle.locus_ids.specs.declared.sites.Sites.{Sites}
use Rattle.locus_ids.specs.declared.ids.FileId.{FileId}
use Rattle.locus_ids.specs.declared.ids.Stamp.{Stamp}
use Rattle.commit_graph.specs.declared.history.Version.{Version}
use Rattle.commit_graph.specs.Versions.{same_file, content_of}
use Rattle.dir_reconcile.specs.of_trace_book.declared.record.Record.{Record}
use Rattle.dir_reconcile.specs.of_trace_book.declared.record.Record.TheVariants.{Commit, Adopt}
use Rattle.tree_model.specs.Folds.{Trace, over}
use Rattle.tree_model.specs.Packs.{has_pack}

-- Histories.

abbrev pub format_stamp : Stamp
format_stamp = record { site = 0; n = 0 }

-- the root directory of a group as a freshly formatted pack has it
abbrev pub format_version : ℕ → Version
format_version group = record { file = record { group = group; ino = 1 }; site = 0; stamp = format_stamp; parents = []; content = [] }

-- a format version for each group that has packs, of these and the later groups
abbrev pub format_versions : ℕ → List Sites → List Version
format_versions group [] = []
format_versions group (packs ∷ rest) = cond (packs.0 == 0) (format_versions (group + 1) rest) (format_version group ∷ format_versions (group + 1) rest)

abbrev pub history_after : Record → List Version → List Version
history_after (Commit f s stamp parents content) old = record { file = f; site = s; stamp = stamp; parents = parents; content = content } ∷ old
history_after _ old = old

-- the history: each commit as a version, the newest first, after the format versions
abbrev pub history : Config → Trace → List Version
history c trace = over (format_versions 0 c.packs) (λ r before old. history_after r.what old) trace

-- the content of a version, or no bytes where there is none
abbrev pub stamped_content : List Version → FileId → Option Stamp → List ℕ
stamped_content h f None = []
stamped_content h f (Some s) = content_of h f s

-- What a site has.

-- a site with a pack of the group has the root directory from its format on
abbrev pub formatted : Config → ℕ → FileId → Option Stamp
formatted c site f = cond ((f.ino == 1) && has_pack c f.group site) (Some format_stamp) None

abbrev pub held_after : Record → ℕ → FileId → Option Stamp → Option Stamp
held_after (Commit g s stamp parents content) site f old = cond (same_file g f && (s == site)) (Some stamp) old
held_after (Adopt g s stamp) site f old = cond (same_file g f && (s == site)) (Some stamp) old
held_after _ site f old = old

-- the version of the file that the site has: the last that it committed or adopted, and of a root directory first that of
-- the format
abbrev pub held : Config → Trace → ℕ → FileId → Option Stamp
held c trace site f = over (formatted c site f) (λ r before old. held_after r.what site f old) trace
