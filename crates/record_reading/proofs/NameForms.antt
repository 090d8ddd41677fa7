-- The forms of names and of bytes.
use Rattle.std.proofs.Common.{◌≡◌, ℕ, ◌==◌, Bool, true, false, cond, codes, List, [], ◌∷◌, length, Some, None, refl, sym, ap, ◌∙◌, arith, ⊎_elim}
use Rattle.std.specs.Prelude.{◌&&◌, not, nat_le, nat_lt}
use Rattle.std.specs.List.{list_all}
use Rattle.std.specs.Str.{bytes_eq}
use Rattle.std.proofs.lemmas.Bool.{and_parts, eqb-true, false≢true, le-leb, leb-true}
use Rattle.std.proofs.lemmas.Option.{cond_some}
use Rattle.trace_book.specs.Names.{is_name, is_name_byte, plain_name}
use Rattle.schedule_lines.specs.Ranges.{is_word, is_word_byte}
use Rattle.line_text.proofs.CallForms.{and_both}
use Rattle.line_text.proofs.Splits.{true_or_false}
use Rattle.wire_fields.specs.Components.{after_at, is_component, is_digit, is_inode_text, is_small_from, is_suffix}
use Rattle.record_words.specs.Fields.{component_in, name_in}
use Rattle.record_reading.proofs.Bytes.{each_is, free}
use Rattle.record_reading.proofs.Forms.{Exact, Word}

-- ---- names

abbrev pub itself : List ℕ → List ℕ
itself w = w

test_form : (test : List ℕ → Bool) → Exact itself test (λ w. cond (test w) (Some w) None)
test_form test = record {
  sound = λ w x h. let p = cond_some (test w) w x h in (p.1, ap test (sym p.1) ∙ p.0);
  complete = λ x h. rw h refl;
}

name_byte_free : (c : ℕ) → is_name_byte c ≡ true → not (c == 32) ≡ true
name_byte_free c h =
    let a = and_parts (nat_le 33 c && nat_le c 126 && not (c == 47)) (not (c == 64)) h in
    let b = and_parts (nat_le 33 c && nat_le c 126) (not (c == 47)) a.0 in
    let d = and_parts (nat_le 33 c) (nat_le c 126) b.0 in
    ⊎_elim
    (λ (e : (c == 32) ≡ true). let same : c ≡ 32 = eqb-true c 32 e in absurd (false≢true (rw same at d.0)))
    (λ (e : (c == 32) ≡ false). rw e refl)
    (true_or_false (c == 32))

pub name_bytes : (w : List ℕ) → is_name w ≡ true → list_all is_name_byte w ≡ true
name_bytes w h =
    let a = and_parts (nat_lt 0 (length w)) (nat_le (length w) 60 && (not (bytes_eq w (codes ".")) && (not (bytes_eq w (codes "..")) && list_all is_name_byte w))) h in
    let b = and_parts (nat_le (length w) 60) (not (bytes_eq w (codes ".")) && (not (bytes_eq w (codes "..")) && list_all is_name_byte w)) a.1 in
    let d = and_parts (not (bytes_eq w (codes "."))) (not (bytes_eq w (codes "..")) && list_all is_name_byte w) b.1 in
    (and_parts (not (bytes_eq w (codes ".."))) (list_all is_name_byte w) d.1).1

pub name_word : Word 32 itself is_name name_in
name_word = record { form = test_form is_name; free = λ w h. each_is is_name_byte (λ c. not (c == 32)) name_byte_free w (name_bytes w h) }

digit_free : (c : ℕ) → is_digit c ≡ true → not (c == 32) ≡ true
digit_free c h =
    let d = and_parts (nat_le 48 c) (nat_le c 57) h in
    ⊎_elim
    (λ (e : (c == 32) ≡ true). let same : c ≡ 32 = eqb-true c 32 e in absurd (false≢true (rw same at d.0)))
    (λ (e : (c == 32) ≡ false). rw e refl)
    (true_or_false (c == 32))

inode_text_free : (digits : List ℕ) → is_inode_text digits ≡ true → free 32 digits ≡ true
inode_text_free [] h = absurd (false≢true h)
inode_text_free (c ∷ cs) h =
    let a = and_parts (not (c == 48)) (is_small_from 0 (c ∷ cs)) h in
    each_is is_digit (λ d. not (d == 32)) digit_free (c ∷ cs) (and_parts (list_all is_digit (c ∷ cs)) _ a.1).0

parts_free : (w : List ℕ) → list_all is_name_byte (plain_name w) ≡ true → is_suffix (after_at w) ≡ true → free 32 w ≡ true
parts_free [] h g = refl
parts_free (c ∷ cs) h g =
    ⊎_elim
    (λ (e : (c == 64) ≡ true).
    let at : c ≡ 64 = eqb-true c 64 e in
    rw at (inode_text_free cs (rw e at g)))
    (λ (e : (c == 64) ≡ false).
    let p = and_parts (is_name_byte c) (list_all is_name_byte (plain_name cs)) (rw e at h) in
    and_both (not (c == 32)) (free 32 cs) (name_byte_free c p.0) (parts_free cs p.1 (rw e at g)))
    (true_or_false (c == 64))

-- ---- no line feed

word_byte_one : (c : ℕ) → is_word_byte c ≡ true → not (c == 10) ≡ true
word_byte_one c h =
    ⊎_elim
    (λ (e : (c == 10) ≡ true). let same : c ≡ 10 = eqb-true c 10 e in absurd (false≢true (rw same at h)))
    (λ (e : (c == 10) ≡ false). rw e refl)
    (true_or_false (c == 10))

name_word_byte : (c : ℕ) → is_name_byte c ≡ true → is_word_byte c ≡ true
name_word_byte c h =
    let a = and_parts (nat_le 33 c && nat_le c 126 && not (c == 47)) (not (c == 64)) h in
    (and_parts (nat_le 33 c && nat_le c 126) (not (c == 47)) a.0).0

digit_word_byte : (c : ℕ) → is_digit c ≡ true → is_word_byte c ≡ true
digit_word_byte c h =
    let d = and_parts (nat_le 48 c) (nat_le c 57) h in
    let low = leb-true 48 c d.0 in
    let high = leb-true c 57 d.1 in
    and_both _ _ (le-leb 33 c (omega arith)) (le-leb c 126 (omega arith))

inode_text_word : (digits : List ℕ) → is_inode_text digits ≡ true → list_all is_word_byte digits ≡ true
inode_text_word [] h = absurd (false≢true h)
inode_text_word (c ∷ cs) h =
    let a = and_parts (not (c == 48)) (is_small_from 0 (c ∷ cs)) h in
    each_is is_digit is_word_byte digit_word_byte (c ∷ cs) (and_parts (list_all is_digit (c ∷ cs)) _ a.1).0

parts_word : (w : List ℕ) → list_all is_name_byte (plain_name w) ≡ true → is_suffix (after_at w) ≡ true → list_all is_word_byte w ≡ true
parts_word [] h g = refl
parts_word (c ∷ cs) h g =
    ⊎_elim
    (λ (e : (c == 64) ≡ true).
    let at : c ≡ 64 = eqb-true c 64 e in
    rw at (inode_text_word cs (rw e at g)))
    (λ (e : (c == 64) ≡ false).
    let p = and_parts (is_name_byte c) (list_all is_name_byte (plain_name cs)) (rw e at h) in
    and_both (is_word_byte c) (list_all is_word_byte cs) (name_word_byte c p.0) (parts_word cs p.1 (rw e at g)))
    (true_or_false (c == 64))

pub word_line : (w : List ℕ) → is_word w ≡ true → free 10 w ≡ true
word_line w h = each_is is_word_byte (λ c. not (c == 10)) word_byte_one w (and_parts (nat_lt 0 (length w)) (list_all is_word_byte w) h).1

pub name_line : (w : List ℕ) → is_name w ≡ true → free 10 w ≡ true
name_line w h = each_is is_word_byte (λ c. not (c == 10)) word_byte_one w (each_is is_name_byte is_word_byte name_word_byte w (name_bytes w h))

pub component_line : (w : List ℕ) → is_component w ≡ true → free 10 w ≡ true
component_line w h =
    let p = and_parts (is_name (plain_name w)) (is_suffix (after_at w)) h in
    each_is is_word_byte (λ c. not (c == 10)) word_byte_one w (parts_word w (name_bytes (plain_name w) p.0) p.1)

pub component_word : Word 32 itself is_component component_in
component_word = record {
  form = test_form is_component;
  free = λ w h.
      let p = and_parts (is_name (plain_name w)) (is_suffix (after_at w)) h in
      parts_free w (name_bytes (plain_name w) p.0) p.1;
}
