-- No bytes ask two things.
use Rattle.std.proofs.Common.{◌≡◌, ℕ, ◌==◌, ◌<◌, true, false, List, [], ◌∷◌, ◌++◌, Option, None, Some, codes, drop, refl, sym, ap, ◌∙◌, arith}
use Rattle.std.specs.Prelude.{◌&&◌}
use Rattle.std.specs.Fmt.{decimal}
use Rattle.std.proofs.lemmas.Bool.{and_parts, false≢true}
use Rattle.std.proofs.lemmas.Bool.Decides.{nat_tests}
use Rattle.std.proofs.lemmas.Fmt.{decimal_digit}
use Rattle.trace_book.specs.Text.{call_words, number}
use Rattle.schedule_lines.specs.Ranges.{fits_call, is_between, is_site}
use Rattle.schedule_lines.specs.Spelling.{is_passed, three_operands}
use Rattle.schedule_lines.specs.declared.line.Line.TheVariants as line
use Rattle.schedule_lines.specs.declared.line.ScheduleLine.{ScheduleLine}
use Rattle.schedule_lines.specs.declared.line.ScheduleLine.TheVariants.{Event}
use Rattle.line_text.proofs.OneReading.{one_line}
use Rattle.the_run.specs.Commands.{Asked, opening_lines}
use Rattle.the_run.specs.Asking.{call_line, Asks}

abbrev asked_of : ScheduleLine → Option Asked
asked_of (Event (line.Call site process words)) = Some (record { site = site; process = process; words = words })
asked_of _ = None

-- after the first word stands a digit, which is no sign of a comment
digit_after : (digits process words : List ℕ) (d : ℕ) → digits ≡ d ∷ [] → (d == 35) ≡ false → is_passed (drop 5 (three_operands (codes "call") digits process words)) ≡ false
digit_after digits process words d f g = ap (λ (ds : List ℕ). is_passed (drop 5 (three_operands (codes "call") ds process words))) f ∙ g

no_comment : (bytes : List ℕ) (a : Asked) → is_passed bytes ≡ true → Asks bytes (Some a) → ⊥
no_comment bytes a p asks =
    let s : is_site 3 a.site ≡ true = (and_parts (is_site 3 a.site) (is_between 1 8 a.process) (and_parts (is_site 3 a.site && is_between 1 8 a.process) (fits_call 3 a.words) asks.1).0).0 in
    let few : a.site < 10 = grind (arith, nat_tests) in
    false≢true (sym (digit_after (decimal a.site) (number a.process) (call_words a.words) _ (decimal_digit a.site few) (grind (arith, nat_tests))) ∙ (ap (λ (xs : List ℕ). is_passed (drop 5 xs)) (sym asks.0) ∙ p))

pub one_asking : (bytes : List ℕ) (a b : Option Asked) → Asks bytes a → Asks bytes b → a ≡ b
one_asking bytes None None p q = refl
one_asking bytes None (Some b) p q = absurd (no_comment bytes b p q)
one_asking bytes (Some a) None p q = absurd (no_comment bytes a q p)
one_asking bytes (Some a) (Some b) p q =
    ap asked_of (one_line (opening_lines 100000) (codes "call " ++ bytes) (Event (call_line a)) (Event (call_line b)) p q)
