-- The form of refusals.
use Rattle.std.proofs.Common.{◌≡◌, ℕ, true, codes, List, ◌∷◌, ◌++◌, Option, Some, None, refl, ap, ◌∙◌, append_assoc}
use Rattle.std.specs.Str.{bytes_eq}
use Rattle.std.proofs.lemmas.Option.{none-some}
use Rattle.locus_ids.specs.declared.ids.EpochId.{EpochId}
use Rattle.locus_ids.specs.declared.ids.Stamp.{Stamp}
use Rattle.locus_ids.specs.declared.refusal.Refusal.{Refusal}
use Rattle.locus_ids.specs.declared.refusal.Refusal.TheVariants as refusal
use Rattle.trace_book.specs.Text.{refusal_text}
use Rattle.line_text.specs.Words.{two_words}
use Rattle.line_text.proofs.CallForms.{cond_either}
use Rattle.line_text.proofs.Splits.{split_sound}
use Rattle.record_words.specs.Answers.{long_refusal, refusal_in, refusal_of, short_refusal}
use Rattle.record_words.specs.Fields.{any_site_in, component_in, epoch_in, inode_in, process_in, short_in, stamp_in, words_in}
use Rattle.record_reading.specs.Ranges.{is_refusal}
use Rattle.record_reading.proofs.Cases.{Case, case_of, led, said}
use Rattle.record_reading.proofs.FieldForms.{epoch_word, inode_word, process_word, short_word, site_word, stamp_word}
use Rattle.record_reading.proofs.Forms.{Exact, Says, spaced}
use Rattle.record_reading.proofs.NameForms.{component_word}

busy_case : Case refusal_text is_refusal (codes "busy") (λ (t : ℕ × ℕ). refusal.Busy t.0 t.1) (words_in any_site_in process_in)
busy_case = case_of (spaced site_word process_word.form) (λ x. simp append_assoc) (λ x. refl)

absent_case : Case refusal_text is_refusal (codes "absent") (λ (x : List ℕ). refusal.Absent x) component_in
absent_case = case_of component_word.form (λ x. refl) (λ x. refl)

notdir_case : Case refusal_text is_refusal (codes "notdir") (λ (x : List ℕ). refusal.NotDir x) component_in
notdir_case = case_of component_word.form (λ x. refl) (λ x. refl)

exists_case : Case refusal_text is_refusal (codes "exists") (λ (x : ℕ). refusal.Exists x) inode_in
exists_case = case_of inode_word.form (λ x. refl) (λ x. refl)

notempty_case : Case refusal_text is_refusal (codes "notempty") (λ (x : List ℕ). refusal.NotEmpty x) component_in
notempty_case = case_of component_word.form (λ x. refl) (λ x. refl)

conflict_case : Case refusal_text is_refusal (codes "conflict") (λ (t : Stamp × Stamp). refusal.Conflict t.0 t.1) (words_in stamp_in stamp_in)
conflict_case = case_of (spaced (stamp_word 32 refl refl) (stamp_word 32 refl refl).form) (λ x. simp append_assoc) (λ x. refl)

ambiguous_case : Case refusal_text is_refusal (codes "ambiguous") (λ (t : ℕ × ℕ). refusal.Ambiguous t.0 t.1) (words_in inode_in inode_in)
ambiguous_case = case_of (spaced inode_word inode_word.form) (λ x. simp append_assoc) (λ x. refl)

changed_case : Case refusal_text is_refusal (codes "changed") (λ (x : EpochId). refusal.Changed x) epoch_in
changed_case = case_of epoch_word.form (λ x. refl) (λ x. refl)

stale_case : Case refusal_text is_refusal (codes "stale") (λ (x : EpochId). refusal.Stale x) epoch_in
stale_case = case_of epoch_word.form (λ x. refl) (λ x. refl)

nospace_case : Case refusal_text is_refusal (codes "nospace") (λ (t : ℕ × ℕ). refusal.NoSpace t.0 t.1) (words_in short_in short_in)
nospace_case = case_of (spaced short_word short_word.form) (λ x. simp append_assoc) (λ x. refl)

-- ---- what is read is a refusal's text

short_refusal_sound : (w : List ℕ) (y : Refusal) → short_refusal w ≡ Some y → Says refusal_text is_refusal w y
short_refusal_sound w y h0 =
    cond_either (bytes_eq w (codes "isdir")) _ _ _ h0 (λ b e. said refusal_text is_refusal w (codes "isdir") refusal.IsDir y b e refl refl) (λ b0 h1.
    cond_either (bytes_eq w (codes "nostorage")) _ _ _ h1 (λ b e. said refusal_text is_refusal w (codes "nostorage") refusal.NoStorage y b e refl refl) (λ b1 h2.
    cond_either (bytes_eq w (codes "nopartition")) _ _ _ h2 (λ b e. said refusal_text is_refusal w (codes "nopartition") refusal.NoPartition y b e refl refl) (λ b2 h3.
    cond_either (bytes_eq w (codes "baddescriptor")) _ _ _ h3 (λ b e. said refusal_text is_refusal w (codes "baddescriptor") refusal.BadDescriptor y b e refl refl) (λ b3 h4.
    cond_either (bytes_eq w (codes "toolong")) _ _ _ h4 (λ b e. said refusal_text is_refusal w (codes "toolong") refusal.TooLong y b e refl refl) (λ b4 h5.
    cond_either (bytes_eq w (codes "noinode")) _ _ _ h5 (λ b e. said refusal_text is_refusal w (codes "noinode") refusal.NoInode y b e refl refl) (λ b5 h6.
    cond_either (bytes_eq w (codes "badname")) _ _ _ h6 (λ b e. said refusal_text is_refusal w (codes "badname") refusal.BadName y b e refl refl) (λ b6 h7.
    cond_either (bytes_eq w (codes "readonly")) _ _ _ h7 (λ b e. said refusal_text is_refusal w (codes "readonly") refusal.ReadOnly y b e refl refl) (λ b7 h8.
    cond_either (bytes_eq w (codes "nodescriptor")) _ _ _ h8 (λ b e. said refusal_text is_refusal w (codes "nodescriptor") refusal.NoDescriptor y b e refl refl) (λ b8 h9.
    cond_either (bytes_eq w (codes "spent")) _ _ _ h9 (λ b e. said refusal_text is_refusal w (codes "spent") refusal.Spent y b e refl refl) (λ b9 h10.
    cond_either (bytes_eq w (codes "noconflict")) _ _ _ h10 (λ b e. said refusal_text is_refusal w (codes "noconflict") refusal.NoConflict y b e refl refl) (λ b10 h11.
    absurd (none-some y h11))))))))))))

long_refusal_sound : (w rest : List ℕ) (y : Refusal) → long_refusal w rest ≡ Some y → Says refusal_text is_refusal (w ++ (32 ∷ rest)) y
long_refusal_sound w rest y h0 =
    cond_either (bytes_eq w (codes "busy")) _ _ _ h0 (λ b e. led refusal_text is_refusal w (codes "busy") rest y b (busy_case.sound rest y e)) (λ b0 h1.
    cond_either (bytes_eq w (codes "absent")) _ _ _ h1 (λ b e. led refusal_text is_refusal w (codes "absent") rest y b (absent_case.sound rest y e)) (λ b1 h2.
    cond_either (bytes_eq w (codes "notdir")) _ _ _ h2 (λ b e. led refusal_text is_refusal w (codes "notdir") rest y b (notdir_case.sound rest y e)) (λ b2 h3.
    cond_either (bytes_eq w (codes "exists")) _ _ _ h3 (λ b e. led refusal_text is_refusal w (codes "exists") rest y b (exists_case.sound rest y e)) (λ b3 h4.
    cond_either (bytes_eq w (codes "notempty")) _ _ _ h4 (λ b e. led refusal_text is_refusal w (codes "notempty") rest y b (notempty_case.sound rest y e)) (λ b4 h5.
    cond_either (bytes_eq w (codes "conflict")) _ _ _ h5 (λ b e. led refusal_text is_refusal w (codes "conflict") rest y b (conflict_case.sound rest y e)) (λ b5 h6.
    cond_either (bytes_eq w (codes "ambiguous")) _ _ _ h6 (λ b e. led refusal_text is_refusal w (codes "ambiguous") rest y b (ambiguous_case.sound rest y e)) (λ b6 h7.
    cond_either (bytes_eq w (codes "changed")) _ _ _ h7 (λ b e. led refusal_text is_refusal w (codes "changed") rest y b (changed_case.sound rest y e)) (λ b7 h8.
    cond_either (bytes_eq w (codes "stale")) _ _ _ h8 (λ b e. led refusal_text is_refusal w (codes "stale") rest y b (stale_case.sound rest y e)) (λ b8 h9.
    cond_either (bytes_eq w (codes "nospace")) _ _ _ h9 (λ b e. led refusal_text is_refusal w (codes "nospace") rest y b (nospace_case.sound rest y e)) (λ b9 h10.
    absurd (none-some y h10)))))))))))

refusal_of_sound : (bytes : List ℕ) (o : Option (List ℕ × List ℕ)) (y : Refusal) → two_words bytes ≡ o → refusal_of bytes o ≡ Some y → Says refusal_text is_refusal bytes y
refusal_of_sound bytes None y e h = short_refusal_sound bytes y h
refusal_of_sound bytes (Some p) y e h =
    let q = long_refusal_sound p.0 p.1 y h in
    (split_sound 32 bytes p e ∙ q.0, q.1)

-- ---- a refusal is read from its text

refusal_complete : (x : Refusal) → is_refusal x ≡ true → refusal_in (refusal_text x) ≡ Some x
refusal_complete (refusal.Busy a b) h = let q = busy_case.complete (a, b) h in ap refusal_in q.1 ∙ q.2
refusal_complete (refusal.Absent a) h = let q = absent_case.complete a h in ap refusal_in q.1 ∙ q.2
refusal_complete (refusal.NotDir a) h = let q = notdir_case.complete a h in ap refusal_in q.1 ∙ q.2
refusal_complete refusal.IsDir h = refl
refusal_complete (refusal.Exists a) h = let q = exists_case.complete a h in ap refusal_in q.1 ∙ q.2
refusal_complete (refusal.NotEmpty a) h = let q = notempty_case.complete a h in ap refusal_in q.1 ∙ q.2
refusal_complete (refusal.Conflict a b) h = let q = conflict_case.complete (a, b) h in ap refusal_in q.1 ∙ q.2
refusal_complete (refusal.Ambiguous a b) h = let q = ambiguous_case.complete (a, b) h in ap refusal_in q.1 ∙ q.2
refusal_complete refusal.NoStorage h = refl
refusal_complete refusal.NoPartition h = refl
refusal_complete (refusal.Changed a) h = let q = changed_case.complete a h in ap refusal_in q.1 ∙ q.2
refusal_complete refusal.BadDescriptor h = refl
refusal_complete (refusal.Stale a) h = let q = stale_case.complete a h in ap refusal_in q.1 ∙ q.2
refusal_complete refusal.TooLong h = refl
refusal_complete (refusal.NoSpace a b) h = let q = nospace_case.complete (a, b) h in ap refusal_in q.1 ∙ q.2
refusal_complete refusal.NoInode h = refl
refusal_complete refusal.BadName h = refl
refusal_complete refusal.ReadOnly h = refl
refusal_complete refusal.NoDescriptor h = refl
refusal_complete refusal.Spent h = refl
refusal_complete refusal.NoConflict h = refl

pub refusal_form : Exact refusal_text is_refusal refusal_in
refusal_form = record { sound = λ w y h. refusal_of_sound w (two_words w) y refl h; complete = refusal_complete }
