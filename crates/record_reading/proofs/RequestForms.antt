-- The forms of operations with their results, and of looks with what is served.
use Rattle.std.proofs.Common.{◌≡◌, ℕ, Bool, true, false, codes, List, ◌∷◌, ◌++◌, Some, refl, sym, ap, ◌∙◌, append_assoc, lit<}
use Rattle.std.specs.Prelude.{◌&&◌}
use Rattle.std.specs.Fmt.{decimal}
use Rattle.std.specs.Str.{bytes_eq}
use Rattle.std.proofs.lemmas.Bool.{and_parts}
use Rattle.std.proofs.lemmas.Option.{none-some, option_and_then_some}
use Rattle.locus_ids.specs.Sizes.{file_bytes_max}
use Rattle.locus_ids.specs.declared.ids.Kind.{Kind}
use Rattle.trace_book.specs.Text.{gap, op_text, outcome_text, served_text, what_text}
use Rattle.trace_book.specs.declared.operation.Op.{Op}
use Rattle.trace_book.specs.declared.operation.Op.TheVariants as op
use Rattle.trace_book.specs.declared.operation.Outcome.{Outcome}
use Rattle.trace_book.specs.declared.operation.Served.{Served}
use Rattle.trace_book.specs.declared.operation.Served.TheVariants as served
use Rattle.trace_book.specs.declared.operation.What.{What}
use Rattle.trace_book.specs.declared.operation.What.TheVariants as what
use Rattle.schedule_lines.specs.Ranges.{is_between}
use Rattle.line_text.specs.Words.{hex_in, number_in, two_words}
use Rattle.line_text.proofs.CallForms.{cond_either}
use Rattle.line_text.proofs.Splits.{split_sound}
use Rattle.record_words.specs.Answers.{committed_in, done_in, found_in, read_in, served_in}
use Rattle.record_reading.specs.AsRead.{served_stamp, what_as_read}
use Rattle.record_words.specs.Fields.{component_in, inode_in, kind_in, name_in, words_in}
use Rattle.record_reading.specs.Ranges.{is_act, is_look, is_served, is_stamp}
use Rattle.record_reading.specs.Requests.{act_in, act_with, content_act, look_in, look_with, place_in}
use Rattle.record_reading.proofs.AnswerForms.{committed_form, done_form, found_form, read_form, served_form}
use Rattle.record_reading.proofs.Cases.{Case, case_of, led}
use Rattle.record_reading.proofs.ChoiceForms.{kind_word}
use Rattle.record_reading.proofs.DataForms.{some_data_word}
use Rattle.record_reading.proofs.FieldForms.{inode_word}
use Rattle.record_reading.proofs.Forms.{Exact, Form, Says, Word, number_word, spaced}
use Rattle.record_reading.proofs.NameForms.{component_word, name_word}

place_word : Word 32 decimal (is_between 0 file_bytes_max) place_in
place_word = number_word 32 0 file_bytes_max refl (lit< tt)

length_word : Word 32 decimal (is_between 0 4096) (number_in 0 4096)
length_word = number_word 32 0 4096 refl (lit< tt)

-- an operation and its result
abbrev pub act_text : Op × Outcome → List ℕ
act_text p = op_text p.0 ++ gap ++ outcome_text p.1

abbrev pub fits_act : Op × Outcome → Bool
fits_act p = is_act p.0 p.1

probe_case : Case act_text fits_act (codes "probe") (λ (t : List ℕ × Outcome). (op.Probe t.0, t.1)) (words_in name_in done_in)
probe_case = case_of (spaced name_word done_form) (λ t. simp append_assoc) (λ t. refl)

find_case : Case act_text fits_act (codes "find") (λ (t : List ℕ × Outcome). (op.Find t.0, t.1)) (words_in component_in found_in)
find_case = case_of (spaced component_word found_form) (λ t. simp append_assoc) (λ t. refl)

insert_case : Case act_text fits_act (codes "insert") (λ (t : List ℕ × (ℕ × (Kind × Outcome))). (op.Insert t.0 t.1.0 t.1.1.0, t.1.1.1)) (words_in name_in (words_in inode_in (words_in kind_in done_in)))
insert_case = case_of (spaced name_word (spaced inode_word (spaced kind_word done_form))) (λ t. simp append_assoc) (λ t. refl)

remove_case : Case act_text fits_act (codes "remove") (λ (t : List ℕ × (ℕ × Outcome)). (op.Remove t.0 t.1.0, t.1.1)) (words_in name_in (words_in inode_in done_in))
remove_case = case_of (spaced name_word (spaced inode_word done_form)) (λ t. simp append_assoc) (λ t. refl)

rename_case : Case act_text fits_act (codes "rename") (λ (t : List ℕ × (List ℕ × Outcome)). (op.Rename t.0 t.1.0, t.1.1)) (words_in component_in (words_in name_in done_in))
rename_case = case_of (spaced component_word (spaced name_word done_form)) (λ t. simp append_assoc) (λ t. refl)

empty_case : Case act_text fits_act (codes "empty") (λ (o : Outcome). (op.Empty, o)) done_in
empty_case = case_of done_form (λ t. refl) (λ t. refl)

mend_case : Case act_text fits_act (codes "mend") (λ (o : Outcome). (op.Mend, o)) done_in
mend_case = case_of done_form (λ t. refl) (λ t. refl)

read_case : Case act_text fits_act (codes "read") (λ (t : ℕ × (ℕ × Outcome)). (op.Read t.0 t.1.0, t.1.1)) (words_in place_in (words_in (number_in 0 4096) read_in))
read_case = case_of (spaced place_word (spaced length_word read_form)) (λ t. simp append_assoc) (λ t. refl)

write_case : Case act_text fits_act (codes "write") (λ (t : ℕ × (List ℕ × Outcome)). (op.Write t.0 t.1.0, t.1.1)) (words_in place_in (words_in (hex_in 4096) done_in))
write_case = case_of (spaced place_word (spaced (some_data_word 4096) done_form)) (λ t. simp append_assoc) (λ t. refl)

cut_case : Case act_text fits_act (codes "cut") (λ (t : ℕ × Outcome). (op.Cut t.0, t.1)) (words_in place_in done_in)
cut_case = case_of (spaced place_word done_form) (λ t. simp append_assoc) (λ t. refl)

commit_case : Case act_text fits_act (codes "commit") (λ (o : Outcome). (op.Commit, o)) committed_in
commit_case = case_of committed_form (λ t. refl) (λ t. refl)

abort_case : Case act_text fits_act (codes "abort") (λ (o : Outcome). (op.Abort, o)) done_in
abort_case = case_of done_form (λ t. refl) (λ t. refl)

content_sound : (w rest : List ℕ) (y : Op × Outcome) → content_act w rest ≡ Some y → Says act_text fits_act (w ++ (32 ∷ rest)) y
content_sound w rest y h0 =
    cond_either (bytes_eq w (codes "read")) _ _ _ h0 (λ b e. led act_text fits_act w (codes "read") rest y b (read_case.sound rest y e)) (λ b0 h1.
    cond_either (bytes_eq w (codes "write")) _ _ _ h1 (λ b e. led act_text fits_act w (codes "write") rest y b (write_case.sound rest y e)) (λ b1 h2.
    cond_either (bytes_eq w (codes "cut")) _ _ _ h2 (λ b e. led act_text fits_act w (codes "cut") rest y b (cut_case.sound rest y e)) (λ b2 h3.
    cond_either (bytes_eq w (codes "commit")) _ _ _ h3 (λ b e. led act_text fits_act w (codes "commit") rest y b (commit_case.sound rest y e)) (λ b3 h4.
    cond_either (bytes_eq w (codes "abort")) _ _ _ h4 (λ b e. led act_text fits_act w (codes "abort") rest y b (abort_case.sound rest y e)) (λ b4 h5.
    absurd (none-some y h5))))))

act_with_sound : (w rest : List ℕ) (y : Op × Outcome) → act_with w rest ≡ Some y → Says act_text fits_act (w ++ (32 ∷ rest)) y
act_with_sound w rest y h0 =
    cond_either (bytes_eq w (codes "probe")) _ _ _ h0 (λ b e. led act_text fits_act w (codes "probe") rest y b (probe_case.sound rest y e)) (λ b0 h1.
    cond_either (bytes_eq w (codes "find")) _ _ _ h1 (λ b e. led act_text fits_act w (codes "find") rest y b (find_case.sound rest y e)) (λ b1 h2.
    cond_either (bytes_eq w (codes "insert")) _ _ _ h2 (λ b e. led act_text fits_act w (codes "insert") rest y b (insert_case.sound rest y e)) (λ b2 h3.
    cond_either (bytes_eq w (codes "remove")) _ _ _ h3 (λ b e. led act_text fits_act w (codes "remove") rest y b (remove_case.sound rest y e)) (λ b3 h4.
    cond_either (bytes_eq w (codes "rename")) _ _ _ h4 (λ b e. led act_text fits_act w (codes "rename") rest y b (rename_case.sound rest y e)) (λ b4 h5.
    cond_either (bytes_eq w (codes "empty")) _ _ _ h5 (λ b e. led act_text fits_act w (codes "empty") rest y b (empty_case.sound rest y e)) (λ b5 h6.
    cond_either (bytes_eq w (codes "mend")) _ _ _ h6 (λ b e. led act_text fits_act w (codes "mend") rest y b (mend_case.sound rest y e)) (λ b6 h7.
    content_sound w rest y h7)))))))

act_sound : (w : List ℕ) (y : Op × Outcome) → act_in w ≡ Some y → Says act_text fits_act w y
act_sound w y h = option_and_then_some _ (two_words w) y h (λ p e g.
    let q = act_with_sound p.0 p.1 y g in
    (split_sound 32 w p e ∙ q.0, q.1))

act_complete : (a : Op) (o : Outcome) → is_act a o ≡ true → act_in (act_text (a, o)) ≡ Some (a, o)
act_complete (op.Probe name) o h = let q = probe_case.complete (name, o) h in ap act_in q.1 ∙ q.2
act_complete (op.Find component) o h = let q = find_case.complete (component, o) h in ap act_in q.1 ∙ q.2
act_complete (op.Insert name ino kind) o h = let q = insert_case.complete (name, (ino, (kind, o))) h in ap act_in q.1 ∙ q.2
act_complete (op.Remove name ino) o h = let q = remove_case.complete (name, (ino, o)) h in ap act_in q.1 ∙ q.2
act_complete (op.Rename component name) o h = let q = rename_case.complete (component, (name, o)) h in ap act_in q.1 ∙ q.2
act_complete op.Empty o h = let q = empty_case.complete o h in ap act_in q.1 ∙ q.2
act_complete (op.Read at len) o h = let q = read_case.complete (at, (len, o)) h in ap act_in q.1 ∙ q.2
act_complete (op.Write at bytes) o h = let q = write_case.complete (at, (bytes, o)) h in ap act_in q.1 ∙ q.2
act_complete (op.Cut len) o h = let q = cut_case.complete (len, o) h in ap act_in q.1 ∙ q.2
act_complete op.Commit o h = let q = commit_case.complete o h in ap act_in q.1 ∙ q.2
act_complete op.Abort o h = let q = abort_case.complete o h in ap act_in q.1 ∙ q.2
act_complete op.Mend o h = let q = mend_case.complete o h in ap act_in q.1 ∙ q.2

pub act_form : Exact act_text fits_act act_in
act_form = record { sound = act_sound; complete = λ p h. act_complete p.0 p.1 h }

-- ---- looks

abbrev pub look_text : What × Served → List ℕ
look_text p = what_text p.0 ++ gap ++ served_text p.1

abbrev pub fits_look : What × Served → Bool
fits_look p = is_look p.0 p.1

-- the look that stands for all of its text
abbrev pub look_as_read : What × Served → What × Served
look_as_read p = (what_as_read p.0 p.1, p.1)

name_case : Case look_text fits_look (codes "name") (λ (t : List ℕ × Served). (what.Name t.0, t.1)) (words_in component_in served_in)
name_case = case_of (spaced component_word served_form) (λ t. simp append_assoc) (λ t. refl)

list_case : Case look_text fits_look (codes "list") (λ (s : Served). (what.List, s)) served_in
list_case = case_of served_form (λ t. refl) (λ t. refl)

stat_case : Case look_text fits_look (codes "stat") (λ (s : Served). (what.Stat, s)) served_in
stat_case = case_of served_form (λ t. refl) (λ t. refl)

twice : (b : Bool) → b ≡ (b && b)
twice true = refl
twice false = refl

whole_fits : (s : Served) → is_served s ≡ (is_stamp (served_stamp s) && is_served s)
whole_fits (served.At stamp) = twice (is_stamp stamp)
whole_fits (served.No why) = refl

whole_case : Case look_text fits_look (codes "whole") (λ (s : Served). (what.Whole (served_stamp s), s)) served_in
whole_case = case_of served_form (λ s. refl) whole_fits

look_with_sound : (w rest : List ℕ) (y : What × Served) → look_with w rest ≡ Some y → Says look_text fits_look (w ++ (32 ∷ rest)) y
look_with_sound w rest y h0 =
    cond_either (bytes_eq w (codes "name")) _ _ _ h0 (λ b e. led look_text fits_look w (codes "name") rest y b (name_case.sound rest y e)) (λ b0 h1.
    cond_either (bytes_eq w (codes "list")) _ _ _ h1 (λ b e. led look_text fits_look w (codes "list") rest y b (list_case.sound rest y e)) (λ b1 h2.
    cond_either (bytes_eq w (codes "stat")) _ _ _ h2 (λ b e. led look_text fits_look w (codes "stat") rest y b (stat_case.sound rest y e)) (λ b2 h3.
    cond_either (bytes_eq w (codes "whole")) _ _ _ h3 (λ b e. led look_text fits_look w (codes "whole") rest y b (whole_case.sound rest y e)) (λ b3 h4.
    absurd (none-some y h4)))))

look_sound : (w : List ℕ) (y : What × Served) → look_in w ≡ Some y → Says look_text fits_look w y
look_sound w y h = option_and_then_some _ (two_words w) y h (λ p e g.
    let q = look_with_sound p.0 p.1 y g in
    (split_sound 32 w p e ∙ q.0, q.1))

look_complete : (a : What) (s : Served) → is_look a s ≡ true → look_in (look_text (a, s)) ≡ Some (what_as_read a s, s)
look_complete (what.Name component) s h = let q = name_case.complete (component, s) h in ap look_in q.1 ∙ q.2
look_complete what.List s h = let q = list_case.complete s h in ap look_in q.1 ∙ q.2
look_complete what.Stat s h = let q = stat_case.complete s h in ap look_in q.1 ∙ q.2
look_complete (what.Whole stamp) s h =
    let p = and_parts (is_stamp stamp) (is_served s) h in
    let q = whole_case.complete s (sym (whole_fits s) ∙ p.1) in
    ap look_in q.1 ∙ q.2

pub look_form : Form look_text fits_look look_as_read look_in
look_form = record { sound = look_sound; complete = λ p h. look_complete p.0 p.1 h }
