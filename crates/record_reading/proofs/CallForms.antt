-- The form of the words of a call, for each process.
use Rattle.std.proofs.Common.{◌≡◌, ℕ, ◌==◌, Bool, true, false, cond, codes, List, Some, refl, ap, ◌∙◌}
use Rattle.std.specs.Str.{bytes_eq}
use Rattle.std.proofs.lemmas.Bool.{false≢true}
use Rattle.std.proofs.lemmas.Option.{none-some, option_and_then_some}
use Rattle.locus_ids.specs.Sizes.{sites_max}
use Rattle.locus_ids.specs.declared.ids.FileId.{FileId}
use Rattle.trace_book.specs.Text.{call_words}
use Rattle.trace_book.specs.declared.call.Call.{Call}
use Rattle.trace_book.specs.declared.call.Call.TheVariants as call
use Rattle.schedule_lines.specs.Ranges.{fits_call}
use Rattle.line_text.specs.CallReader.{call_in}
use Rattle.line_text.specs.Words.{two_words}
use Rattle.line_text.proofs.CallForms.{call_complete, call_sound, cond_either}
use Rattle.line_text.proofs.Splits.{split_sound}
use Rattle.record_words.specs.Fields.{file_in}
use Rattle.record_reading.specs.Ranges.{is_mend, is_words}
use Rattle.record_reading.specs.Requests.{call_words_in, mend_in}
use Rattle.record_reading.proofs.Cases.{Case, case_of, led}
use Rattle.record_reading.proofs.FieldForms.{file_word}
use Rattle.record_reading.proofs.Forms.{Exact, Says}

mend_case : Case call_words is_mend (codes "mend") (λ (file : FileId). call.Mend file) file_in
mend_case = case_of (file_word 1).form (λ f. refl) (λ f. refl)

mend_sound : (w : List ℕ) (y : Call) → mend_in w ≡ Some y → Says call_words is_mend w y
mend_sound w y h = option_and_then_some _ (two_words w) y h (λ p e g.
    cond_either (bytes_eq p.0 (codes "mend")) _ _ _ g
    (λ b k.
    let q = led call_words is_mend p.0 (codes "mend") p.1 y b (mend_case.sound p.1 y k) in
    (split_sound 32 w p e ∙ q.0, q.1))
    (λ b k. absurd (none-some y k)))

mend_complete : (c : Call) → is_mend c ≡ true → mend_in (call_words c) ≡ Some c
mend_complete (call.Mend file) h = let q = mend_case.complete file h in ap mend_in q.1 ∙ q.2
mend_complete c h = absurd (false≢true h)

pub words_form : (process : ℕ) → Exact call_words (is_words process) (call_words_in process)
words_form process = by (process == 0)
  where
    by : (b : Bool) → Exact call_words (λ c. cond b (is_mend c) (fits_call sites_max c)) (λ w. cond b (mend_in w) (call_in sites_max w))
    by true = record { sound = mend_sound; complete = mend_complete }
    by false = record { sound = λ w c h. call_sound sites_max w c h; complete = λ c h. call_complete sites_max c h }
