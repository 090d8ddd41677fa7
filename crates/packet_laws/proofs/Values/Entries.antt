-- What is found in a directory is of the format.
use Rattle.std.proofs.Common.{◌≡◌, ℕ, Bool, true, false, cond, ◌&&◌, List, [], ◌∷◌, filter, length, Some, refl}
use Rattle.std.specs.List.{AllByRecursion, find}
use Rattle.std.specs.Str.{bytes_eq}
use Rattle.role_steps.proofs.of_plain_facts.Tests.{both_true}
use Rattle.trace_book.specs.declared.operation.What.{What}
use Rattle.trace_book.specs.declared.operation.What.TheVariants as what
use Rattle.dir_format.specs.Contents.{entries_from, entries_of, is_dir}
use Rattle.dir_format.specs.Entries.{IsEntry}
use Rattle.dir_format.specs.Grammar.{dir_bytes}
use Rattle.dir_format.specs.Lookups.{is_meant, look_among, lookup}
use Rattle.dir_format.specs.declared.entry.Entry.{Entry}
use Rattle.dir_format.specs.declared.looking.LookResult.{LookResult}
use Rattle.dir_format.specs.declared.looking.LookResult.TheVariants as found
use Rattle.dir_format.proofs.ContentOf.{dir_tells}
use Rattle.wire_fields.specs.Parts.{components, inodes, sizes}
use Rattle.wire_fields.specs.Operations.{whats}
use Rattle.wire_messages.specs.Answers.{look_answers}
use Rattle.role_steps.specs.Own.{Every}
use Rattle.role_steps.specs.Storage.{look_found, served_content}
use Rattle.the_run.proofs.InsideSync.{Found}
use Rattle.packet_laws.proofs.Fitting.Lists.{every_kept}
use Rattle.packet_laws.proofs.Values.Fields.{ino_fits, kind_fits}

every_all : {A : Type 0} (P : A → Type 0) (xs : List A) → AllByRecursion P xs → Every P xs
every_all P [] h = tt
every_all P (x ∷ xs) h = (h.0, every_all P xs h.1)

-- the entries of any content may stand in a directory
pub entries_fit : (content : List ℕ) → Every IsEntry (entries_of content)
entries_fit content = over (bytes_eq (dir_bytes ds) content && is_dir ds) refl
  where
    ds : List Entry
    ds = entries_from (length content) content

    over : (b : Bool) → (bytes_eq (dir_bytes ds) content && is_dir ds) ≡ b → Every IsEntry (cond b ds [])
    over true e = every_all IsEntry ds (dir_tells ds (both_true (bytes_eq (dir_bytes ds) content) (is_dir ds) e).1).entries
    over false e = tt

pub entry_ino : (d : Entry) → IsEntry d → inodes.Fits d.ino
entry_ino d h = ino_fits d.ino h.ino.0 h.ino.1

pub find_fits : (test : Entry → Bool) (ds : List Entry) → Every IsEntry ds → Found IsEntry (find test ds)
find_fits test [] h = tt
find_fits test (d ∷ ds) h = over (test d) (find_fits test ds h.1)
  where
    over : (b : Bool) → Found IsEntry (find test ds) → Found IsEntry (cond b (Some d) (find test ds))
    over true rest = h.0
    over false rest = rest

-- ---- lookups ----

abbrev pub ResultFits : LookResult → Type 0
ResultFits (found.Found ino kind) = inodes.Fits ino
ResultFits found.Absent = Unit {0}
ResultFits (found.Ambiguous a b) = inodes.Fits a × inodes.Fits b

among_fits : (ds : List Entry) → Every IsEntry ds → ResultFits (look_among ds)
among_fits [] h = tt
among_fits (d ∷ []) h = entry_ino d h.0
among_fits (d ∷ other ∷ others) h = (entry_ino d h.0, entry_ino other h.1.0)

pub lookup_fits : (ds : List Entry) (component : List ℕ) → Every IsEntry ds → ResultFits (lookup ds component)
lookup_fits ds component h = among_fits (filter (is_meant component) ds) (every_kept IsEntry (is_meant component) ds h)

look_found_fits : (component : List ℕ) (r : LookResult) → components.Fits component → ResultFits r → look_answers.Fits (look_found component r)
look_found_fits component (found.Found ino kind) k h = (h, kind_fits kind)
look_found_fits component found.Absent k h = k
look_found_fits component (found.Ambiguous a b) k h = h

pub served_fits : (w : What) (content : List ℕ) → whats.Fits w → sizes.Fits (length content) → look_answers.Fits (served_content w content)
served_fits (what.Name component) content k h = look_found_fits component (lookup (entries_of content) component) k (lookup_fits (entries_of content) component (entries_fit content))
served_fits what.List content k h = h
served_fits what.Stat content k h = h
served_fits (what.Whole stamp) content k h = h
