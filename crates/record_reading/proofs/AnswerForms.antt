-- The forms of results, and of what is served.
use Rattle.std.proofs.Common.{◌≡◌, ℕ, Bool, true, false, codes, List, ◌∷◌, ◌++◌, Option, Some, None, refl, sym, ap, subst, ◌∙◌, append_assoc, arith}
use Rattle.std.specs.Prelude.{◌&&◌}
use Rattle.std.specs.Fmt.{decimal}
use Rattle.std.specs.List.{list_all}
use Rattle.std.specs.Option.{option_map}
use Rattle.std.specs.Str.{bytes_eq}
use Rattle.std.proofs.lemmas.Bool.{and_parts, false≢true}
use Rattle.std.proofs.lemmas.Option.{cond_some, option_and_then_some, same_Some}
use Rattle.std.proofs.lemmas.Slice.Eq.{bytes_eq-Decides}
use Rattle.locus_ids.specs.Sizes.{sites_max}
use Rattle.locus_ids.specs.declared.ids.Kind.{Kind}
use Rattle.locus_ids.specs.declared.ids.Stamp.{Stamp}
use Rattle.locus_ids.specs.declared.refusal.Refusal.{Refusal}
use Rattle.locus_ids.specs.declared.refusal.Refusal.TheVariants as refusal
use Rattle.trace_book.specs.Text.{outcome_text, refusal_text, served_text, stamp_text}
use Rattle.trace_book.specs.declared.operation.Outcome.{Outcome}
use Rattle.trace_book.specs.declared.operation.Outcome.TheVariants as outcome
use Rattle.trace_book.specs.declared.operation.Served.{Served}
use Rattle.trace_book.specs.declared.operation.Served.TheVariants as served
use Rattle.schedule_lines.specs.Ranges.{is_between}
use Rattle.line_text.specs.Words.{two_words}
use Rattle.line_text.proofs.CallForms.{cond_either, map_some}
use Rattle.line_text.proofs.HexWords.{gives_none}
use Rattle.line_text.proofs.NumberTexts.{between_parts, is_between_from}
use Rattle.line_text.proofs.Splits.{split_sound}
use Rattle.record_words.specs.Answers.{after_ok, committed_in, done_in, found_in, read_in, refusal_in, refused_in, result_with, served_in, served_with}
use Rattle.record_words.specs.Fields.{data_in, inode_in, kind_in, stamp_in, words_in}
use Rattle.record_words.specs.Order.{agrees, number_max}
use Rattle.record_reading.specs.Ranges.{is_committed, is_done, is_found, is_inode, is_read, is_refusal, is_served, is_stamp}
use Rattle.record_reading.proofs.Bytes.{all_joined, decimal_digits, each_is, is_digit_byte}
use Rattle.record_reading.proofs.Cases.{Case, and_true, case_of, said}
use Rattle.record_reading.proofs.ChoiceForms.{kind_word}
use Rattle.record_reading.proofs.DataForms.{data_word}
use Rattle.record_reading.proofs.FieldForms.{inode_word, stamp_word}
use Rattle.record_reading.proofs.Forms.{Exact, Says, spaced}
use Rattle.record_reading.proofs.RefusalForms.{refusal_form}

-- ---- refusals begin with letters, and none with ok

-- a digit or a point
abbrev is_stamp_byte : ℕ → Bool
is_stamp_byte c = is_between 46 57 c

pub speaks : (why : Refusal) → (list_all is_stamp_byte (refusal_text why) ≡ false) × (after_ok (refusal_text why) ≡ None) × (bytes_eq (refusal_text why) (codes "ok") ≡ false)
speaks (refusal.Busy site process) = (refl, refl, refl)
speaks (refusal.Absent name) = (refl, refl, refl)
speaks (refusal.NotDir name) = (refl, refl, refl)
speaks refusal.IsDir = (refl, refl, refl)
speaks (refusal.Exists ino) = (refl, refl, refl)
speaks (refusal.NotEmpty name) = (refl, refl, refl)
speaks (refusal.Conflict a b) = (refl, refl, refl)
speaks (refusal.Ambiguous a b) = (refl, refl, refl)
speaks refusal.NoStorage = (refl, refl, refl)
speaks refusal.NoPartition = (refl, refl, refl)
speaks (refusal.Changed epoch) = (refl, refl, refl)
speaks refusal.BadDescriptor = (refl, refl, refl)
speaks (refusal.Stale epoch) = (refl, refl, refl)
speaks refusal.TooLong = (refl, refl, refl)
speaks (refusal.NoSpace needed free) = (refl, refl, refl)
speaks refusal.NoInode = (refl, refl, refl)
speaks refusal.BadName = (refl, refl, refl)
speaks refusal.ReadOnly = (refl, refl, refl)
speaks refusal.NoDescriptor = (refl, refl, refl)
speaks refusal.Spent = (refl, refl, refl)
speaks refusal.NoConflict = (refl, refl, refl)

digit_stamp : (c : ℕ) → is_digit_byte c ≡ true → is_stamp_byte c ≡ true
digit_stamp c h =
    let p = between_parts 48 57 c h in
    is_between_from 46 57 c (omega (arith, p.0)) p.1

pub number_bytes : (n : ℕ) → is_between 0 number_max n ≡ true → list_all is_stamp_byte (decimal n) ≡ true
number_bytes n h =
    let top = (between_parts 0 number_max n h).1 in
    each_is is_digit_byte is_stamp_byte digit_stamp (decimal n) (decimal_digits n (omega (arith, top)))

pub stamp_bytes : (s : Stamp) → is_stamp s ≡ true → list_all is_stamp_byte (stamp_text s) ≡ true
stamp_bytes s h =
    let p = and_parts (is_between 0 sites_max s.site && is_between 0 number_max s.n) (agrees s.site s.n) h in
    let q = and_parts (is_between 0 sites_max s.site) (is_between 0 number_max s.n) p.0 in
    let r = between_parts 0 sites_max s.site q.0 in
    ap (list_all is_stamp_byte) (append_assoc (decimal s.site) (codes ".") (decimal s.n))
    ∙ all_joined is_stamp_byte 46 (decimal s.site) (decimal s.n) refl (number_bytes s.site (is_between_from 0 number_max s.site r.0 (omega (arith, r.1)))) (number_bytes s.n q.1)

no_stamp : (why : Refusal) → stamp_in (refusal_text why) ≡ None
no_stamp why = sym (gives_none (stamp_in (refusal_text why)) (λ s h.
    let p = (stamp_word 32 refl refl).form.sound (refusal_text why) s h in
    false≢true (sym (speaks why).0 ∙ ap (list_all is_stamp_byte) p.0 ∙ stamp_bytes s p.1)))

-- ---- what is served

served_sound : (w : List ℕ) (o : Option Stamp) (y : Served) → stamp_in w ≡ o → served_with w o ≡ Some y → Says served_text is_served w y
served_sound w None y e h = map_some (λ why. served.No why) (refusal_in w) y h (λ why k s. subst (Says served_text is_served w) s (refusal_form.sound w why k))
served_sound w (Some stamp) y e h = subst (Says served_text is_served w) (same_Some (served.At stamp) y h) ((stamp_word 32 refl refl).form.sound w stamp e)

served_complete : (x : Served) → is_served x ≡ true → served_in (served_text x) ≡ Some x
served_complete (served.At stamp) h = rw ((stamp_word 32 refl refl).form.complete stamp h) refl
served_complete (served.No why) h = rw (no_stamp why, refusal_form.complete why h) refl

pub served_form : Exact served_text is_served served_in
served_form = record { sound = λ w y h. served_sound w (stamp_in w) y refl h; complete = served_complete }

-- ---- results

pub after_ok_sound : (bytes rest : List ℕ) → after_ok bytes ≡ Some rest → bytes ≡ codes "ok" ++ (32 ∷ rest)
after_ok_sound bytes rest h = option_and_then_some _ (two_words bytes) rest h (λ p e g.
    let q = cond_some (bytes_eq p.0 (codes "ok")) p.1 rest g in
    split_sound 32 bytes p e ∙ ap (λ l. l ++ (32 ∷ p.1)) ((bytes_eq-Decides p.0 (codes "ok")).0 q.0) ∙ ap (λ l. codes "ok" ++ (32 ∷ l)) q.1)

refused_sound : (fits : Outcome → Bool) → ((why : Refusal) → is_refusal why ≡ fits (outcome.No why)) → (w : List ℕ) (y : Outcome) → refused_in w ≡ Some y → Says outcome_text fits w y
refused_sound fits fit w y h = map_some (λ why. outcome.No why) (refusal_in w) y h (λ why k s.
    let p = refusal_form.sound w why k in
    subst (Says outcome_text fits w) s (p.0, sym (fit why) ∙ p.1))

refused_complete : (why : Refusal) → is_refusal why ≡ true → refused_in (refusal_text why) ≡ Some (outcome.No why)
refused_complete why h = rw (refusal_form.complete why h) refl

done_sound : (w : List ℕ) (y : Outcome) → done_in w ≡ Some y → Says outcome_text is_done w y
done_sound w y h =
    cond_either (bytes_eq w (codes "ok")) _ _ _ h
    (λ b e. said outcome_text is_done w (codes "ok") outcome.Done y b e refl refl)
    (λ b e. refused_sound is_done (λ why. refl) w y e)

done_complete : (x : Outcome) → is_done x ≡ true → done_in (outcome_text x) ≡ Some x
done_complete outcome.Done h = refl
done_complete (outcome.Found ino kind) h = absurd (false≢true h)
done_complete (outcome.Data bytes) h = absurd (false≢true h)
done_complete (outcome.Committed stamp) h = absurd (false≢true h)
done_complete (outcome.No why) h = rw (speaks why).2 (refused_complete why h)

pub done_form : Exact outcome_text is_done done_in
done_form = record { sound = done_sound; complete = done_complete }

-- a result that gives something, by the case of its ok
result_sound : {A : Type 0} {make : A → Outcome} {read : List ℕ → Option A} (fits : Outcome → Bool) → ((why : Refusal) → is_refusal why ≡ fits (outcome.No why)) → Case outcome_text fits (codes "ok") make read →
    (w : List ℕ) (o : Option (List ℕ)) (y : Outcome) → after_ok w ≡ o → result_with (λ rest. option_map make (read rest)) w o ≡ Some y → Says outcome_text fits w y
result_sound fits fit ok w None y e h = refused_sound fits fit w y h
result_sound fits fit ok w (Some rest) y e h =
    let p = ok.sound rest y h in
    (after_ok_sound w rest e ∙ p.0, p.1)

found_case : Case outcome_text is_found (codes "ok") (λ (t : ℕ × Kind). outcome.Found t.0 t.1) (words_in inode_in kind_in)
found_case = case_of (spaced inode_word kind_word.form) (λ t. simp append_assoc) (λ t. sym (and_true (is_inode t.0)))

found_complete : (x : Outcome) → is_found x ≡ true → found_in (outcome_text x) ≡ Some x
found_complete outcome.Done h = absurd (false≢true h)
found_complete (outcome.Found ino kind) h = let q = found_case.complete (ino, kind) h in ap found_in q.1 ∙ q.2
found_complete (outcome.Data bytes) h = absurd (false≢true h)
found_complete (outcome.Committed stamp) h = absurd (false≢true h)
found_complete (outcome.No why) h = rw (speaks why).1 (refused_complete why h)

pub found_form : Exact outcome_text is_found found_in
found_form = record { sound = λ w y h. result_sound is_found (λ why. refl) found_case w (after_ok w) y refl h; complete = found_complete }

read_case : Case outcome_text is_read (codes "ok") (λ (bytes : List ℕ). outcome.Data bytes) (data_in 4096)
read_case = case_of (data_word 4096).form (λ t. refl) (λ t. refl)

read_complete : (x : Outcome) → is_read x ≡ true → read_in (outcome_text x) ≡ Some x
read_complete outcome.Done h = absurd (false≢true h)
read_complete (outcome.Found ino kind) h = absurd (false≢true h)
read_complete (outcome.Data bytes) h = let q = read_case.complete bytes h in ap read_in q.1 ∙ q.2
read_complete (outcome.Committed stamp) h = absurd (false≢true h)
read_complete (outcome.No why) h = rw (speaks why).1 (refused_complete why h)

pub read_form : Exact outcome_text is_read read_in
read_form = record { sound = λ w y h. result_sound is_read (λ why. refl) read_case w (after_ok w) y refl h; complete = read_complete }

committed_case : Case outcome_text is_committed (codes "ok") (λ (stamp : Stamp). outcome.Committed stamp) stamp_in
committed_case = case_of (stamp_word 32 refl refl).form (λ t. refl) (λ t. refl)

committed_complete : (x : Outcome) → is_committed x ≡ true → committed_in (outcome_text x) ≡ Some x
committed_complete outcome.Done h = absurd (false≢true h)
committed_complete (outcome.Found ino kind) h = absurd (false≢true h)
committed_complete (outcome.Data bytes) h = absurd (false≢true h)
committed_complete (outcome.Committed stamp) h = let q = committed_case.complete stamp h in ap committed_in q.1 ∙ q.2
committed_complete (outcome.No why) h = rw (speaks why).1 (refused_complete why h)

pub committed_form : Exact outcome_text is_committed committed_in
committed_form = record { sound = λ w y h. result_sound is_committed (λ why. refl) committed_case w (after_ok w) y refl h; complete = committed_complete }
