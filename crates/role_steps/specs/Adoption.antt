-- Adoption: a pulled version that is complete takes the place of the site's own copy.
use Rattle.std.specs.Prelude.{ℕ, suc, ◌==◌, nat_le, Bool, true, false, not, ◌&&◌, ◌||◌, cond, List, [], ◌∷◌, length, take, Option, Some, None}
use Rattle.std.specs.List.{flat_map, list_any}
use Rattle.locus_ids.specs.declared.ids.FileId.{FileId}
use Rattle.call_rules.specs.of_commit_graph.Versions.{same_file}
use Rattle.file_effects.specs.of_file_content.Pages.{pages_of, page_of, pages_from}
use Rattle.wire_messages.specs.of_trace_book.declared.call.Call.{Call}
use Rattle.wire_messages.specs.of_trace_book.declared.call.Call.TheVariants as call
use Rattle.wire_messages.specs.of_trace_book.declared.record.Record.{Record}
use Rattle.wire_messages.specs.of_trace_book.declared.record.Record.TheVariants as says
use Rattle.wire_messages.specs.declared.body.Body.TheVariants as body
use Rattle.role_steps.specs.Tables.{row, with_row, without_row}
use Rattle.role_steps.specs.Views.{Frame, Store, Users, SiteView, Shown, DiskWrite, Outcome, quiet, to_sync}
use Rattle.role_steps.specs.Versions.{is_below, file_row}
use Rattle.role_steps.specs.Reports.{on_have_of}
use Rattle.role_steps.specs.Storage.{copy_of, content_of, with_version, has_open, free_pages}
use Rattle.role_steps.specs.Pulling.{pull_key, wanted_pages, is_complete, is_over, bytes_in}
use Rattle.role_steps.specs.declared.copies.FileCopy.{FileCopy}
use Rattle.role_steps.specs.declared.pulls.Pull.{Pull}
use Rattle.role_steps.specs.declared.synchronizing.SyncTable.{SyncTable}
use Rattle.role_steps.specs.declared.users.WaitingCall.{WaitingCall}

-- ---- what waits ----

abbrev pub mends_file : FileId → Call → Bool
mends_file file (call.Mend mended) = same_file mended file
mends_file file _ = false

-- a mend of the file waits at this site
abbrev pub has_mend : Users → FileId → Bool
has_mend u file = list_any (λ (w : WaitingCall). mends_file file w.words) u.waiting

-- the pages that were pulled have room
abbrev pub has_room : Store → Pull → Bool
has_room s p = nat_le (length (wanted_pages p)) (free_pages s p.file.group)

-- a pull is ready where its pages are there and have room, and the file has neither an open instance nor a mend here
abbrev pub is_ready : SiteView → Pull → Bool
is_ready v p = is_complete p && (has_room v.store p && not (has_open v.store p.file || has_mend v.users p.file))

-- ---- one adoption ----

-- at which place among these pages one stands, from this place on
abbrev pub place_from : ℕ → List ℕ → ℕ → Option ℕ
place_from k [] page = None
place_from k (p ∷ ps) page = cond (p == page) (Some k) (place_from (suc k) ps page)

-- Pages that came, in the order of their numbers, are laid over a content: a page of the version is the one that came, or else that
-- of the content, as far as the version has it.
module _ (size : ℕ) (numbers came under : List ℕ) where
  abbrev pub page_laid_at : ℕ → Option ℕ → List ℕ
  page_laid_at page (Some k) = page_of came k
  page_laid_at page None = take (bytes_in size page) (page_of under page)

  abbrev pub page_laid : ℕ → List ℕ
  page_laid page = page_laid_at page (place_from 0 numbers page)

  abbrev pub content_laid : List ℕ
  content_laid = flat_map page_laid (pages_from 0 (pages_of size))

-- the version, over the content of the own copy
abbrev pub content_adopted : Pull → List ℕ → List ℕ
content_adopted p own = content_laid p.size (wanted_pages p) p.content own

abbrev pub copy_adopted : Pull → List ℕ → FileCopy
copy_adopted p own = record { file = p.file; kind = p.kind; set = p.set; stamp = p.stamp; vector = p.vector; content = content_adopted p own }

abbrev pub adopt_record : Frame → Pull → Record
adopt_record f p = says.Adopt p.file f.me p.stamp

-- the version as it is written: the pages that were pulled
abbrev pub adopt_write : Frame → Pull → List ℕ → DiskWrite
adopt_write f p own = record { copy = copy_adopted p own; pages = wanted_pages p; says = adopt_record f p }

abbrev pub table_group : SyncTable → ℕ
table_group t = t.group

abbrev pub with_table : SyncTable → SiteView → SiteView
with_table t v = record v { tables = with_row table_group t v.tables }

-- where the adopting site is the synchronization site, it notes at once what it holds now
abbrev pub notes_own_at : Frame → Pull → Option SyncTable → SiteView → SiteView
notes_own_at f p None v = v
notes_own_at f p (Some t) v = with_table (on_have_of f.me p.stamp (file_row t p.file.ino) t) v

abbrev pub notes_own : Frame → Pull → SiteView → SiteView
notes_own f p v = notes_own_at f p (row table_group p.file.group v.tables) v

abbrev pub without_pull : Pull → SiteView → SiteView
without_pull p v = record v { pulls = without_row pull_key (pull_key p) v.pulls }

abbrev pub with_store : SiteView → Store → SiteView
with_store v s = record v { store = s }

-- the own content, over which the version is laid
abbrev pub content_under : SiteView → Pull → List ℕ
content_under v p = content_of (copy_of v.store p.file)

-- the version stands on the disk, and is pulled no more
abbrev pub with_adopted : Pull → SiteView → SiteView
with_adopted p v = without_pull p (with_store v (with_version (copy_adopted p (content_under v p)) (wanted_pages p) v.store))

abbrev pub adopts_pull : Frame → Pull → SiteView → Outcome SiteView
adopts_pull f p v = record {
  view = notes_own f p (with_adopted p v);
  sent = to_sync f p.file.group (body.Have p.file p.stamp);
  told = Shown (adopt_record f p) ∷ [];
  written = Some (adopt_write f p (content_under v p));
}

abbrev pub is_above_own : Pull → Option FileCopy → Bool
is_above_own p None = true
is_above_own p (Some own) = is_below own.vector p.vector

-- the copy over which it was pulled is still there, or there is still none, and the version is above it
abbrev pub fits_own : Pull → Option FileCopy → Bool
fits_own p own = is_over own p.base && is_above_own p own

-- One event adopts at most one version, that of the least group and inode. A ready one that doesn't fit the site's own copy is
-- dropped without a record, and the next is tried.
abbrev pub adopts_first : Frame → List Pull → SiteView → Outcome SiteView
adopts_first f [] v = quiet v
adopts_first f (p ∷ ps) v = elim (is_ready v p) [
  | true ↦ elim (fits_own p (copy_of v.store p.file)) [
    | true ↦ adopts_pull f p v
    | false ↦ adopts_first f ps (without_pull p v)
  ]
  | false ↦ adopts_first f ps v
]

abbrev pub adopts : Frame → SiteView → Outcome SiteView
adopts f v = adopts_first f v.pulls v
