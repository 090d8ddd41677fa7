-- Only a directory wants a mend, so the first one that does is found among the directories.
use Rattle.std.proofs.Common.{◌≡◌, ℕ, ◌+◌, ◌<◌, Bool, true, false, List, [], ◌∷◌, length, drop, get_or, filter, Option, None, Some, refl, sym, ap, ◌∙◌}
use Rattle.std.proofs.lemmas.List.{drop_more}
use Rattle.std.specs.Prelude.{Result, Ok, Err, IfOk}
use Rattle.std.specs.Option.{is_some}
use Rattle.locus_ids.specs.declared.ids.FileId.{FileId}
use Rattle.site_frame.specs.of_role_steps.Views.{SiteView}
use Rattle.site_frame.specs.of_role_steps.Tables.{first_that, row}
use Rattle.site_frame.specs.of_role_steps.Versions.{row_ino}
use Rattle.site_frame.specs.of_role_steps.Mends.{is_dir, wants_mend, wants_mend_dir}
use Rattle.site_frame.specs.of_role_steps.declared.synchronizing.FileRow.{FileRow}
use Rattle.site_frame.specs.of_role_steps.declared.synchronizing.SyncTable.{SyncTable}
use Rattle.css_versions.specs.Lists.{found_first, found_rows}
use Rattle.css_versions.specs.declared.lists.Listed.{Listed}
use Rattle.site_mends.specs.Mending.{file_in}

-- ---- among the directories ----

abbrev wants_by : SiteView → SyncTable → FileRow → Bool → Bool
wants_by v t r b = elim b [
  | true ↦ wants_mend_dir v t r
  | false ↦ false
]

abbrev first_by : FileRow → Option FileRow → Bool → Option FileRow
first_by r later b = elim b [
  | true ↦ Some r
  | false ↦ later
]

kept_first : (p : FileRow → Bool) (r : FileRow) (rows : List FileRow) → p r ≡ true → filter p (r ∷ rows) ≡ r ∷ filter p rows
kept_first p r rows e = rw e refl

kept_later : (p : FileRow → Bool) (r : FileRow) (rows : List FileRow) → p r ≡ false → filter p (r ∷ rows) ≡ filter p rows
kept_later p r rows e = rw e refl

pub directories_first : (v : SiteView) (t : SyncTable) (rows : List FileRow) → first_that (wants_mend v t) (filter (λ (r : FileRow). is_dir r.kind) rows) ≡ first_that (wants_mend v t) rows
directories_first v t [] = refl
directories_first v t (r ∷ rows) = by_kind (directories_first v t rows) (is_dir r.kind) refl where
  by_kind : first_that (wants_mend v t) (filter (λ (r : FileRow). is_dir r.kind) rows) ≡ first_that (wants_mend v t) rows → (b : Bool) → is_dir r.kind ≡ b → first_that (wants_mend v t) (filter (λ (r : FileRow). is_dir r.kind) (r ∷ rows)) ≡ first_that (wants_mend v t) (r ∷ rows)
  by_kind ih true e = ap (first_that (wants_mend v t)) (kept_first (λ x. is_dir x.kind) r rows e) ∙ ap (λ o. first_by r o (wants_mend v t r)) ih
  by_kind ih false e = ap (first_that (wants_mend v t)) (kept_later (λ x. is_dir x.kind) r rows e) ∙ (ih ∙ sym (ap (λ b. first_by r (first_that (wants_mend v t) rows) (wants_by v t r b)) e))

-- the same, of what is found
pub among_directories : (v : SiteView) (t : SyncTable) (list : List Listed) (found : Option FileId) → found_rows t.files list ≡ filter (λ (r : FileRow). is_dir r.kind) t.files → found ≡ file_in t (first_that (wants_mend v t) (found_rows t.files list)) → found ≡ file_in t (first_that (wants_mend v t) t.files)
among_directories v t list found all e = e ∙ ap (file_in t) (ap (first_that (wants_mend v t)) all ∙ directories_first v t t.files)

pub if_ok : {T E : Type 0} {P Q : T → Type 0} → (r : Result T E) → ((x : T) → P x → Q x) → IfOk r P → IfOk r Q
if_ok (Ok x) f p = f x p
if_ok (Err e) f p = tt

-- ---- one by one ----

some_wants : (t : SyncTable) (p : FileRow → Bool) (o : Option FileRow) (rest : List FileRow) (found : Option FileId) → found ≡ file_in t (first_that p (found_first o [])) → is_some found ≡ true → found ≡ file_in t (first_that p (found_first o rest))
some_wants t p None rest found e s = absurd (cc)
some_wants t p (Some r) rest found e s = by_test (p r) refl where
  by_test : (b : Bool) → p r ≡ b → found ≡ file_in t (first_that p (r ∷ rest))
  by_test true h = e ∙ (ap (λ b. file_in t (first_by r None b)) h ∙ sym (ap (λ b. file_in t (first_by r (first_that p rest) b)) h))
  by_test false h = let none : found ≡ None = e ∙ ap (λ b. file_in t (first_by r None b)) h in absurd (cc)

none_wants : (t : SyncTable) (p : FileRow → Bool) (o : Option FileRow) (rest : List FileRow) (found : Option FileId) → found ≡ file_in t (first_that p (found_first o [])) → is_some found ≡ false → first_that p (found_first o rest) ≡ first_that p rest
none_wants t p None rest found e s = refl
none_wants t p (Some r) rest found e s = by_test (p r) refl where
  by_test : (b : Bool) → p r ≡ b → first_that p (r ∷ rest) ≡ first_that p rest
  by_test true h = let some : is_some found ≡ true = ap is_some (e ∙ ap (λ b. file_in t (first_by r None b)) h) in absurd (cc)
  by_test false h = ap (first_by r (first_that p rest)) h

-- at a place of the list
at_place : (p : FileRow → Bool) (rows : List FileRow) (list : List Listed) (i : ℕ) (one : Listed) → i < length list → first_that p (found_rows rows (drop i list)) ≡ first_that p (found_first (row row_ino (get_or list i one).ino rows) (found_rows rows (drop (i + 1) list)))
at_place p rows list i one l = ap (λ ls. first_that p (found_rows rows ls)) (drop_more list i one l)

pub wants_here : (t : SyncTable) (p : FileRow → Bool) (list : List Listed) (i : ℕ) (one : Listed) (found : Option FileId) → i < length list → found ≡ file_in t (first_that p (found_first (row row_ino (get_or list i one).ino t.files) [])) → is_some found ≡ true
    → first_that p (found_rows t.files (drop i list)) ≡ first_that p (found_rows t.files list) → found ≡ file_in t (first_that p (found_rows t.files list))
wants_here t p list i one found l e s was =
    some_wants t p (row row_ino (get_or list i one).ino t.files) (found_rows t.files (drop (i + 1) list)) found e s ∙ ap (file_in t) (sym (at_place p t.files list i one l) ∙ was)

pub wants_later : (t : SyncTable) (p : FileRow → Bool) (list : List Listed) (i : ℕ) (one : Listed) (found : Option FileId) → i < length list → found ≡ file_in t (first_that p (found_first (row row_ino (get_or list i one).ino t.files) [])) → is_some found ≡ false
    → first_that p (found_rows t.files (drop i list)) ≡ first_that p (found_rows t.files list) → first_that p (found_rows t.files (drop (i + 1) list)) ≡ first_that p (found_rows t.files list)
wants_later t p list i one found l e s was =
    sym (at_place p t.files list i one l ∙ none_wants t p (row row_ino (get_or list i one).ino t.files) (found_rows t.files (drop (i + 1) list)) found e s) ∙ was
