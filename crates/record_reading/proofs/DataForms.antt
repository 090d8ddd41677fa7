-- The forms of bytes in hexadecimal.
use Rattle.std.proofs.Common.{◌≡◌, ℕ, ◌≤◌, ◌==◌, true, false, codes, List, [], ◌∷◌, length, Some, refl, sym, ap, ◌∙◌, arith, ⊎_elim}
use Rattle.std.specs.Prelude.{not, nat_le}
use Rattle.std.specs.List.{list_all}
use Rattle.std.specs.Str.{bytes_eq}
use Rattle.std.proofs.lemmas.Bool.{and_parts, eqb-true, false≢true, le-leb, leb-true}
use Rattle.std.proofs.lemmas.Slice.Eq.{bytes_eq-Decides}
use Rattle.hex.specs.Hex.{encode_lower}
use Rattle.trace_book.specs.Text.{hex_text}
use Rattle.schedule_lines.specs.Ranges.{is_between, is_byte}
use Rattle.line_text.specs.Words.{hex_in, is_lower_digit}
use Rattle.line_text.proofs.CallForms.{and_both, cond_either}
use Rattle.line_text.proofs.HexWords.{hex_complete, hex_sound, hex_word}
use Rattle.line_text.proofs.NumberTexts.{between_parts, is_between_from}
use Rattle.line_text.proofs.Splits.{true_or_false}
use Rattle.record_words.specs.Fields.{data_in}
use Rattle.record_reading.specs.Ranges.{is_data, is_some_data}
use Rattle.record_reading.proofs.Bytes.{each_is, free}
use Rattle.record_reading.proofs.Cases.{said}
use Rattle.record_reading.proofs.Forms.{Says, Word}

pub text_of_some : (most : ℕ) (bytes : List ℕ) → is_between 1 most (length bytes) ≡ true → hex_text bytes ≡ encode_lower bytes
text_of_some most [] h = let low : 1 ≤ 0 = (between_parts 1 most 0 h).0 in absurd (omega arith)
text_of_some most (b ∷ bs) h = refl

-- the digits of some bytes
pub hex_digits : (most : ℕ) (bytes : List ℕ) → is_some_data most bytes ≡ true → list_all is_lower_digit (hex_text bytes) ≡ true
hex_digits most bytes h =
    let p = and_parts (is_between 1 most (length bytes)) (list_all is_byte bytes) h in
    ap (list_all is_lower_digit) (text_of_some most bytes p.0) ∙ (hex_word most (encode_lower bytes) bytes (hex_complete most bytes p.0 p.1)).lower

pub digit_is : (b : ℕ) → is_lower_digit b ≡ false → (c : ℕ) → is_lower_digit c ≡ true → not (c == b) ≡ true
digit_is b h c d =
    ⊎_elim
    (λ (e : (c == b) ≡ true).
    let digit : is_lower_digit b ≡ true = ap is_lower_digit (sym (eqb-true c b e)) ∙ d in
    absurd (false≢true (sym h ∙ digit)))
    (λ (e : (c == b) ≡ false). rw e refl)
    (true_or_false (c == b))

pub some_data_word : (most : ℕ) → Word 32 hex_text (is_some_data most) (hex_in most)
some_data_word most = record {
  form = record {
    sound = λ w bytes h.
        let p = hex_sound most w bytes h in
        (p.0 ∙ sym (text_of_some most bytes p.1), and_both (is_between 1 most (length bytes)) (list_all is_byte bytes) p.1 p.2);
    complete = λ bytes h.
        let p = and_parts (is_between 1 most (length bytes)) (list_all is_byte bytes) h in
        ap (hex_in most) (text_of_some most bytes p.0) ∙ hex_complete most bytes p.0 p.1;
  };
  free = λ bytes h. each_is is_lower_digit (λ c. not (c == 32)) (digit_is 32 refl) (hex_text bytes) (hex_digits most bytes h);
}

-- ---- bytes, or none

pub some_of : (most b : ℕ) (bs : List ℕ) → is_data most (b ∷ bs) ≡ true → is_some_data most (b ∷ bs) ≡ true
some_of most b bs h =
    let p = and_parts (nat_le (length (b ∷ bs)) most) (list_all is_byte (b ∷ bs)) h in
    and_both _ _ (is_between_from 1 most (length (b ∷ bs)) (omega arith) (leb-true (length (b ∷ bs)) most p.0)) p.1

pub data_of : (most : ℕ) (bytes : List ℕ) → is_some_data most bytes ≡ true → is_data most bytes ≡ true
data_of most bytes h =
    let p = and_parts (is_between 1 most (length bytes)) (list_all is_byte bytes) h in
    and_both _ _ (le-leb (length bytes) most (between_parts 1 most (length bytes) p.0).1) p.1

not_dash : (bytes : List ℕ) → list_all is_lower_digit bytes ≡ true → bytes_eq bytes (codes "-") ≡ false
not_dash bytes h =
    ⊎_elim
    (λ (e : bytes_eq bytes (codes "-") ≡ true).
    let dash : list_all is_lower_digit (codes "-") ≡ true = ap (list_all is_lower_digit) (sym ((bytes_eq-Decides bytes (codes "-")).0 e)) ∙ h in
    absurd (false≢true dash))
    (λ (e : bytes_eq bytes (codes "-") ≡ false). e)
    (true_or_false (bytes_eq bytes (codes "-")))

data_sound : (most : ℕ) (w bytes : List ℕ) → data_in most w ≡ Some bytes → Says hex_text (is_data most) w bytes
data_sound most w bytes h =
    cond_either (bytes_eq w (codes "-")) _ _ _ h
    (λ b e. said hex_text (is_data most) w (codes "-") [] bytes b e refl (and_both (nat_le 0 most) true (le-leb 0 most (omega arith)) refl))
    (λ b e.
    let p = (some_data_word most).form.sound w bytes e in
    (p.0, data_of most bytes p.1))

data_complete : (most : ℕ) (bytes : List ℕ) → is_data most bytes ≡ true → data_in most (hex_text bytes) ≡ Some bytes
data_complete most [] h = refl
data_complete most (b ∷ bs) h =
    let some = some_of most b bs h in
    rw (not_dash (hex_text (b ∷ bs)) (hex_digits most (b ∷ bs) some)) ((some_data_word most).form.complete (b ∷ bs) some)

data_free : (most : ℕ) (bytes : List ℕ) → is_data most bytes ≡ true → free 32 (hex_text bytes) ≡ true
data_free most [] h = refl
data_free most (b ∷ bs) h = (some_data_word most).free (b ∷ bs) (some_of most b bs h)

pub data_word : (most : ℕ) → Word 32 hex_text (is_data most) (data_in most)
data_word most = record { form = record { sound = data_sound most; complete = data_complete most }; free = data_free most }
