-- Mends: the synchronization site of a group mends its directories by calls of its own process 0.
use Rattle.std.specs.Prelude.{ℕ, ◌==◌, Bool, true, false, not, ◌&&◌, ◌||◌, List, [], ◌∷◌, length, map, Option, Some, None}
use Rattle.std.specs.List.{list_any, list_all, flat_map}
use Rattle.locus_ids.specs.declared.ids.FileId.{FileId}
use Rattle.locus_ids.specs.declared.ids.Stamp.{Stamp}
use Rattle.locus_ids.specs.declared.ids.Kind.{Kind}
use Rattle.locus_ids.specs.declared.ids.Kind.TheVariants as kind
use Rattle.call_rules.specs.of_commit_graph.Versions.{same_stamp, same_file}
use Rattle.dir_reconcile.specs.of_dir_format.Entries.{is_live}
use Rattle.dir_reconcile.specs.of_dir_format.Contents.{entries_of, entries_from}
use Rattle.dir_reconcile.specs.declared.kept.KeptVector.{KeptVector}
use Rattle.dir_reconcile.specs.Rescues.{rescue_wanted}
use Rattle.wire_messages.specs.of_trace_book.declared.call.Call.{Call}
use Rattle.wire_messages.specs.of_trace_book.declared.call.Call.TheVariants as call
use Rattle.role_steps.specs.Tables.{row, first_that}
use Rattle.role_steps.specs.Views.{Frame, Users, SiteView, Outcome, quiet, and_then, within}
use Rattle.role_steps.specs.Versions.{kept, stamps_of, file_row}
use Rattle.role_steps.specs.Opens.{is_open_on}
use Rattle.role_steps.specs.Storage.{copy_of}
use Rattle.role_steps.specs.OperationEffects.{Mending}
use Rattle.role_steps.specs.Using.{on_call}
use Rattle.role_steps.specs.Epochs.{with_users}
use Rattle.role_steps.specs.Adoption.{table_group}
use Rattle.role_steps.specs.declared.copies.FileCopy.{FileCopy}
use Rattle.role_steps.specs.declared.synchronizing.SyncTable.{SyncTable}
use Rattle.role_steps.specs.declared.synchronizing.FileRow.{FileRow}
use Rattle.role_steps.specs.declared.synchronizing.VersionRow.{VersionRow}
use Rattle.role_steps.specs.declared.users.WaitingCall.{WaitingCall}

-- ---- what a mend works on ----

abbrev pub kept_vector : ℕ → VersionRow → KeptVector
kept_vector ino v = record { ino = ino; vector = v.vector }

abbrev pub file_vectors : FileRow → List KeptVector
file_vectors r = map (kept_vector r.ino) (r.kept)

-- the vectors of all kept versions of a group
abbrev pub kept_vectors : SyncTable → List KeptVector
kept_vectors t = flat_map file_vectors t.files

abbrev pub vectors_of : Option SyncTable → List KeptVector
vectors_of None = []
vectors_of (Some t) = kept_vectors t

abbrev pub mends_in : ℕ → Call → Bool
mends_in group (call.Mend file) = file.group == group
mends_in group _ = false

abbrev pub is_mend_in : ℕ → WaitingCall → Bool
is_mend_in group w = mends_in group w.words

-- a mend of the group waits
abbrev pub has_mend_in : Users → ℕ → Bool
has_mend_in u group = list_any (is_mend_in group) u.waiting

abbrev pub brought_by : Option WaitingCall → List (List ℕ)
brought_by None = []
brought_by (Some w) = w.brought

-- the contents that the mend of the group has brought, and the kept versions of the group
abbrev pub mending : SiteView → ℕ → Mending
mending v group = record {
  contents = brought_by (first_that (is_mend_in group) v.users.waiting);
  kept = vectors_of (row table_group group v.tables);
}

-- the stamps of the kept versions of a file
abbrev pub stamps_in : FileId → Option SyncTable → List Stamp
stamps_in file None = []
stamps_in file (Some t) = stamps_of (kept (file_row t file.ino))

abbrev pub kept_stamps : SiteView → FileId → List Stamp
kept_stamps v file = stamps_in file (row table_group file.group v.tables)

-- ---- when a mend starts ----

abbrev pub is_dir : Kind → Bool
is_dir kind.Dir = true
is_dir kind.File = false

-- where no entry is removed, none wants a rescue
abbrev pub wants_rescue_in : SyncTable → List ℕ → Bool
wants_rescue_in t content = elim (list_all is_live (entries_from (length content) content)) [
  | true ↦ false
  | false ↦ rescue_wanted (entries_of content) (kept_vectors t)
]

abbrev pub wants_rescue_of : SyncTable → Stamp → Option FileCopy → Bool
wants_rescue_of t stamp None = false
wants_rescue_of t stamp (Some x) = elim (same_stamp x.stamp stamp) [
  | true ↦ wants_rescue_in t x.content
  | false ↦ false
]

-- the directory is flagged, or the site's own pack holds its only kept version and a rescue is wanted
abbrev pub wants_mend_of : SiteView → SyncTable → FileId → List VersionRow → Bool
wants_mend_of v t file [] = false
wants_mend_of v t file (one ∷ []) = wants_rescue_of t one.stamp (copy_of v.store file)
wants_mend_of v t file (one ∷ other ∷ others) = true

abbrev pub row_file : SyncTable → FileRow → FileId
row_file t r = record { group = t.group; ino = r.ino }

-- a directory may be mended that has no open instance, and whose mend wasn't refused for want of room in this epoch
abbrev pub may_mend : SiteView → SyncTable → FileId → Bool
may_mend v t file = not (list_any (is_open_on file) t.opens || list_any (same_file file) v.users.hopeless)

abbrev pub wants_mend_dir : SiteView → SyncTable → FileRow → Bool
wants_mend_dir v t r = elim (wants_mend_of v t (row_file t r) r.kept) [
  | true ↦ may_mend v t (row_file t r)
  | false ↦ false
]

abbrev pub wants_mend : SiteView → SyncTable → FileRow → Bool
wants_mend v t r = elim (is_dir r.kind) [
  | true ↦ wants_mend_dir v t r
  | false ↦ false
]

abbrev pub starts_mend_of : Frame → SyncTable → Option FileRow → SiteView → Outcome SiteView
starts_mend_of f t None v = quiet v
starts_mend_of f t (Some r) v = within (with_users v) (on_call f (Some f.epoch) 0 (call.Mend (row_file t r)) v.users)

-- one mend a group at a time, the lowest inode first
abbrev pub starts_mend : Frame → SyncTable → SiteView → Outcome SiteView
starts_mend f t v = elim (t.started && not (has_mend_in v.users t.group)) [
  | true ↦ starts_mend_of f t (first_that (wants_mend v t) t.files) v
  | false ↦ quiet v
]

abbrev pub starts_mends_in : Frame → List SyncTable → SiteView → Outcome SiteView
starts_mends_in f [] v = quiet v
starts_mends_in f (t ∷ ts) v = and_then (starts_mend f t v) (starts_mends_in f ts)

-- mends of several groups start with the groups ascending
abbrev pub starts_mends : Frame → SiteView → Outcome SiteView
starts_mends f v = starts_mends_in f v.tables v
