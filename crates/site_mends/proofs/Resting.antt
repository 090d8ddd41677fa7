-- Where no mend is wanted none starts, and what keeps it so.
use Rattle.std.proofs.Common.{◌≡◌, Bool, true, false, not, ◌&&◌, ◌||◌, List, [], ◌∷◌, Option, None, Some, refl, sym, ap, ◌∙◌}
use Rattle.std.proofs.lemmas.Bool.{false≢true}
use Rattle.std.specs.List.{list_any}
use Rattle.locus_ids.specs.declared.ids.FileId.{FileId}
use Rattle.commit_graph.specs.Versions.{same_file}
use Rattle.site_frame.specs.of_role_steps.Views.{Frame, SiteView, Outcome, and_then, file_key, quiet}
use Rattle.site_frame.specs.of_role_steps.Tables.{first_that, row}
use Rattle.site_frame.specs.of_role_steps.Storage.{copy_key}
use Rattle.site_frame.specs.of_role_steps.Opens.{is_open_on}
use Rattle.site_frame.specs.of_role_steps.Mends.{has_mend_in, is_dir, may_mend, row_file, starts_mend, starts_mend_of, starts_mends_in, wants_mend, wants_mend_dir, wants_mend_of, wants_rescue_of}
use Rattle.site_frame.specs.of_role_steps.declared.synchronizing.FileRow.{FileRow}
use Rattle.site_frame.specs.of_role_steps.declared.synchronizing.SyncTable.{SyncTable}
use Rattle.site_frame.specs.of_role_steps.declared.synchronizing.VersionRow.{VersionRow}
use Rattle.site_mends.specs.Resting.{HopesLess, IsAtRest, WantsNone}

-- ---- none starts ----

abbrev starts_by : Frame → SyncTable → SiteView → Bool → Outcome SiteView
starts_by f t v b = elim b [
  | true ↦ starts_mend_of f t (first_that (wants_mend v t) t.files) v
  | false ↦ quiet v
]

first_is : (a b : Bool) → (a && b) ≡ true → a ≡ true
first_is true b e = refl
first_is false b e = absurd (false≢true e)

one_starts_none : (f : Frame) (t : SyncTable) (v : SiteView) → WantsNone v t → starts_mend f t v ≡ quiet v
one_starts_none f t v none = by_test (t.started && not (has_mend_in v.users t.group)) refl where
  by_test : (b : Bool) → (t.started && not (has_mend_in v.users t.group)) ≡ b → starts_mend f t v ≡ quiet v
  by_test true e = ap (starts_by f t v) e ∙ ap (λ o. starts_mend_of f t o v) (none (first_is t.started (not (has_mend_in v.users t.group)) e))
  by_test false e = ap (starts_by f t v) e

pub rest_starts_none : (f : Frame) (ts : List SyncTable) (v : SiteView) → IsAtRest v ts → starts_mends_in f ts v ≡ quiet v
rest_starts_none f [] v none = refl
rest_starts_none f (t ∷ ts) v none = ap (λ o. and_then o (starts_mends_in f ts)) (one_starts_none f t v none.0) ∙ rest_starts_none f ts v none.1

-- ---- what keeps it so ----

same_wanted : (v w : SiteView) (t : SyncTable) (file : FileId) (kept : List VersionRow) → w.store.copies ≡ v.store.copies → wants_mend_of w t file kept ≡ wants_mend_of v t file kept
same_wanted v w t file [] copies = refl
same_wanted v w t file (one ∷ []) copies = ap (λ xs. wants_rescue_of t one.stamp (row copy_key (file_key file) xs)) copies
same_wanted v w t file (one ∷ other ∷ others) copies = refl

may_less : (v w : SiteView) (t : SyncTable) (file : FileId) → HopesLess v.users w.users → may_mend v t file ≡ false → may_mend w t file ≡ false
may_less v w t file less e = by_open (list_any (is_open_on file) t.opens) refl where
  hopeless : (b : Bool) → list_any (same_file file) v.users.hopeless ≡ b → not b ≡ false → list_any (same_file file) w.users.hopeless ≡ true
  hopeless true h k = less file h
  hopeless false h k = absurd (false≢true (sym k))

  by_open : (b : Bool) → list_any (is_open_on file) t.opens ≡ b → may_mend w t file ≡ false
  by_open true h = ap (λ (b : Bool). not (b || list_any (same_file file) w.users.hopeless)) h
  by_open false h = ap (λ (b : Bool). not (b || list_any (same_file file) w.users.hopeless)) h
      ∙ ap not (hopeless (list_any (same_file file) v.users.hopeless) refl (sym (ap (λ (b : Bool). not (b || list_any (same_file file) v.users.hopeless)) h) ∙ e))

abbrev dir_by : SiteView → SyncTable → FileRow → Bool → Bool
dir_by v t r b = elim b [
  | true ↦ may_mend v t (row_file t r)
  | false ↦ false
]

abbrev wants_by : SiteView → SyncTable → FileRow → Bool → Bool
wants_by v t r b = elim b [
  | true ↦ wants_mend_dir v t r
  | false ↦ false
]

dir_less : (v w : SiteView) (t : SyncTable) (r : FileRow) → w.store.copies ≡ v.store.copies → HopesLess v.users w.users → wants_mend_dir v t r ≡ false → wants_mend_dir w t r ≡ false
dir_less v w t r copies less e = by_wanted (wants_mend_of v t (row_file t r) r.kept) refl where
  same : wants_mend_of w t (row_file t r) r.kept ≡ wants_mend_of v t (row_file t r) r.kept
  same = same_wanted v w t (row_file t r) r.kept copies

  by_wanted : (b : Bool) → wants_mend_of v t (row_file t r) r.kept ≡ b → wants_mend_dir w t r ≡ false
  by_wanted true h = ap (dir_by w t r) (same ∙ h) ∙ may_less v w t (row_file t r) less (sym (ap (dir_by v t r) h) ∙ e)
  by_wanted false h = ap (dir_by w t r) (same ∙ h)

wants_less : (v w : SiteView) (t : SyncTable) (r : FileRow) → w.store.copies ≡ v.store.copies → HopesLess v.users w.users → wants_mend v t r ≡ false → wants_mend w t r ≡ false
wants_less v w t r copies less e = by_kind (is_dir r.kind) refl where
  by_kind : (b : Bool) → is_dir r.kind ≡ b → wants_mend w t r ≡ false
  by_kind true h = ap (wants_by w t r) h ∙ dir_less v w t r copies less (sym (ap (wants_by v t r) h) ∙ e)
  by_kind false h = ap (wants_by w t r) h

abbrev first_by : FileRow → Option FileRow → Bool → Option FileRow
first_by r later b = elim b [
  | true ↦ Some r
  | false ↦ later
]

none_first : (r : FileRow) → ◌≡◌ {A = Option FileRow} (Some r) None → ⊥
none_first r e = cc

first_less : (p q : FileRow → Bool) (rows : List FileRow) → ((r : FileRow) → p r ≡ false → q r ≡ false) → first_that p rows ≡ None → first_that q rows ≡ None
first_less p q [] less none = refl
first_less p q (r ∷ rows) less none = by_test (p r) refl (λ h. first_less p q rows less h) where
  by_test : (b : Bool) → p r ≡ b → (first_that p rows ≡ None → first_that q rows ≡ None) → first_that q (r ∷ rows) ≡ None
  by_test true h later = absurd (none_first r (sym (ap (first_by r (first_that p rows)) h) ∙ none))
  by_test false h later = ap (first_by r (first_that q rows)) (less r h) ∙ later (sym (ap (first_by r (first_that p rows)) h) ∙ none)

-- the same copies, and no more hope
pub rest_stays : (v w : SiteView) (ts : List SyncTable) → w.store.copies ≡ v.store.copies → HopesLess v.users w.users → IsAtRest v ts → IsAtRest w ts
rest_stays v w [] copies less rest = tt
rest_stays v w (t ∷ ts) copies less rest = ((λ started. first_less (wants_mend v t) (wants_mend w t) t.files (λ r. wants_less v w t r copies less) (rest.0 started)), rest_stays v w ts copies less rest.1)
