-- What a synchronization site knows of the files of its group: versions, which of them are kept, and who holds which.
use Rattle.std.specs.Prelude.{ℕ, ◌==◌, Bool, true, false, not, ◌&&◌, cond, List, [], ◌∷◌, filter, map, Option, Some, None}
use Rattle.std.specs.List.{list_any}
use Rattle.locus_ids.specs.declared.ids.Stamp.{Stamp}
use Rattle.locus_ids.specs.declared.ids.Kind.{Kind}
use Rattle.locus_ids.specs.declared.sites.Sites.{Sites}
use Rattle.dir_reconcile.specs.of_version_vector.Counters.{all_le, joined}
use Rattle.call_rules.specs.of_commit_graph.Versions.{same_stamp}
use Rattle.dir_reconcile.specs.of_dir_format.Entries.{nothing_seen}
use Rattle.role_steps.specs.Tables.{row, with_row}
use Rattle.role_steps.specs.Views.{stamp_key, first_site}
use Rattle.role_steps.specs.declared.synchronizing.SyncTable.{SyncTable}
use Rattle.role_steps.specs.declared.synchronizing.FileRow.{FileRow}
use Rattle.role_steps.specs.declared.synchronizing.VersionRow.{VersionRow}
use Rattle.role_steps.specs.declared.synchronizing.Holding.{Holding}

-- each counter is at most the other's, and they differ
abbrev pub is_below : List ℕ → List ℕ → Bool
is_below a b = all_le a b && not (all_le b a)

abbrev pub version_key : VersionRow → ℕ
version_key v = stamp_key v.stamp

abbrev pub row_ino : FileRow → ℕ
row_ino r = r.ino

abbrev pub holding_site : Holding → ℕ
holding_site h = h.site

-- what is known of the file
abbrev pub file_row : SyncTable → ℕ → Option FileRow
file_row t ino = row row_ino ino t.files

abbrev pub with_file : FileRow → SyncTable → SyncTable
with_file r t = record t { files = with_row row_ino r t.files }

-- ---- kept versions ----

abbrev pub is_below_some : VersionRow → List VersionRow → Bool
is_below_some v others = list_any (λ (w : VersionRow). is_below v.vector w.vector) others

abbrev pub not_below : VersionRow → List VersionRow → List VersionRow
not_below v others = filter (λ (w : VersionRow). not (is_below w.vector v.vector)) others

-- the kept versions where one more is brought or published: those whose vector is below that of no other, ascending by stamp
abbrev pub with_kept : VersionRow → List VersionRow → List VersionRow
with_kept v others = elim (is_below_some v others) [
  | true ↦ others
  | false ↦ with_row version_key v (not_below v others)
]

abbrev pub kept : Option FileRow → List VersionRow
kept None = []
kept (Some r) = r.kept

abbrev pub stamps_of : List VersionRow → List Stamp
stamps_of vs = map (λ (v : VersionRow). v.stamp) vs

-- counter by counter the greatest of all
abbrev pub joined_vectors : List VersionRow → List ℕ
joined_vectors [] = nothing_seen
joined_vectors (v ∷ vs) = joined v.vector (joined_vectors vs)

abbrev pub version_of : FileRow → Stamp → Option VersionRow
version_of r stamp = row version_key (stamp_key stamp) r.versions

-- ---- files and versions become known ----

abbrev pub unknown_file : ℕ → Kind → Sites → FileRow
unknown_file ino kind set = record { ino = ino; kind = kind; set = set; versions = []; kept = []; holders = [] }

abbrev pub known_or : FileRow → Option FileRow → FileRow
known_or unknown None = unknown
known_or unknown (Some r) = r

abbrev pub with_version : VersionRow → FileRow → FileRow
with_version v r = record r { versions = with_row version_key v r.versions; kept = with_kept v r.kept }

-- the site holds the version
abbrev pub with_holder : ℕ → Stamp → FileRow → FileRow
with_holder site stamp r = record r { holders = with_row holding_site (record { site = site; stamp = stamp }) r.holders }

-- ---- who holds what ----

abbrev pub holding_of : FileRow → ℕ → Option Holding
holding_of r site = row holding_site site r.holders

-- the members that hold the version, ascending
abbrev pub holders_of : FileRow → Stamp → List ℕ
holders_of r stamp = map holding_site (filter (λ (h : Holding). same_stamp h.stamp stamp) r.holders)

abbrev pub is_among : ℕ → List ℕ → Bool
is_among site sites = list_any (λ s. s == site) sites

abbrev pub rises_to : VersionRow → Option VersionRow → Bool
rises_to v None = true
rises_to v (Some old) = is_below old.vector v.vector

abbrev pub noted_at : FileRow → ℕ → VersionRow → Option Holding → FileRow
noted_at r site v None = with_holder site v.stamp r
noted_at r site v (Some h) = cond (rises_to v (version_of r h.stamp)) (with_holder site v.stamp r) r

-- a site tells which version it holds: the table only rises, and a stamp that isn't known changes nothing
abbrev pub noted_of : FileRow → ℕ → Option VersionRow → FileRow
noted_of r site None = r
noted_of r site (Some v) = noted_at r site v (holding_of r site)

abbrev pub noted : ℕ → Stamp → FileRow → FileRow
noted site stamp r = noted_of r site (version_of r stamp)

-- the using site where it is one of the holders, else the synchronization site where it is, else the lowest-numbered
abbrev pub chosen_site : ℕ → ℕ → List ℕ → Option ℕ
chosen_site us css holders = cond (is_among us holders) (Some us) (cond (is_among css holders) (Some css) (first_site holders))
