-- The form of a line: its number, and a record.
use Rattle.std.proofs.Common.{◌≡◌, true, ℕ, List, Some, None, sym, ap, ◌∙◌, append_assoc}
use Rattle.std.specs.Fmt.{decimal}
use Rattle.std.proofs.lemmas.Option.{none-some, same_Some}
use Rattle.trace_book.specs.Text.{gap, record_text}
use Rattle.trace_book.specs.declared.record.Record.{Record}
use Rattle.line_text.proofs.CallForms.{and_both}
use Rattle.std.proofs.lemmas.Bool.{and_parts}
use Rattle.record_reading.specs.AsRead.{as_read}
use Rattle.record_reading.specs.Ranges.{is_counted, is_record}
use Rattle.record_reading.specs.Reading.{IsLine, IsLineRead}
use Rattle.record_reading.specs.Records.{line_in, record_in}
use Rattle.record_reading.proofs.FieldForms.{counted_word}
use Rattle.record_reading.proofs.Forms.{Form, both_fit, joined_form, joined_text}
use Rattle.record_reading.proofs.RecordForms.{record_form}

line_form : Form (joined_text 32 decimal record_text) (both_fit is_counted is_record) (λ p. (p.0, as_read p.1)) line_in
line_form = joined_form 32 counted_word.form counted_word.free record_form

line_is : (bytes : List ℕ) (p : ℕ × Record) → line_in bytes ≡ Some p → IsLine bytes p.0 p.1
line_is bytes p h =
    let says = line_form.sound bytes p h in
    let fit = and_parts (is_counted p.0) (is_record p.1) says.1 in
    record { text = says.0 ∙ sym (append_assoc (decimal p.0) gap (record_text p.1)); counted = fit.0; formed = fit.1 }

is_read : (bytes : List ℕ) (n : ℕ) (r : Record) → IsLine bytes n r → line_in bytes ≡ Some (n, as_read r)
is_read bytes n r is =
    ap line_in (is.text ∙ append_assoc (decimal n) gap (record_text r)) ∙ line_form.complete (n, r) (and_both (is_counted n) (is_record r) is.counted is.formed)

-- what is read stands for all of this text
pub line_read : (bytes : List ℕ) (p : ℕ × Record) → line_in bytes ≡ Some p → IsLineRead bytes p.0 p.1
line_read bytes p h = record {
  is = line_is bytes p h;
  stands = λ n r is.
      let same : (n, as_read r) ≡ p = same_Some (n, as_read r) p (sym (is_read bytes n r is) ∙ h) in
      (ap (λ (q : ℕ × Record). q.0) same, ap (λ (q : ℕ × Record). q.1) same);
}

-- where nothing is read, no record has this text
pub line_bad : (bytes : List ℕ) (n : ℕ) (r : Record) → line_in bytes ≡ None → IsLine bytes n r → ⊥
line_bad bytes n r h is = none-some (n, as_read r) (sym h ∙ is_read bytes n r is)

-- ---- the record that stands for a text

pub stands_text : (r : Record) → is_record r ≡ true → record_text (as_read r) ≡ record_text r
stands_text r h = sym (record_form.sound (record_text r) (as_read r) (record_form.complete r h)).0

pub stands_formed : (r : Record) → is_record r ≡ true → is_record (as_read r) ≡ true
stands_formed r h = (record_form.sound (record_text r) (as_read r) (record_form.complete r h)).1

pub one_stands : (r s : Record) → is_record r ≡ true → is_record s ≡ true → record_text r ≡ record_text s → as_read r ≡ as_read s
one_stands r s hr hs same = same_Some (as_read r) (as_read s) (sym (record_form.complete r hr) ∙ ap record_in same ∙ record_form.complete s hs)
