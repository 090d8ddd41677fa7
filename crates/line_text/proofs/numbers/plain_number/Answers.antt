use Rattle.std.proofs.Common.{◌≡◌, ℕ, suc, ◌+◌, ◌-◌, ◌*◌, ◌<◌, ◌≤◌, ◌^◌, true, List, take, drop, get_or, sym, ap, subst, ◌∙◌, arith}
use Rattle.std.specs.Char.{digit_value}
use Rattle.std.specs.Str.Parse.{AllDigits, digits_value, digits_value_after}
use Rattle.std.proofs.lemmas.Bool.{false≢true}
use Rattle.std.proofs.lemmas.Str.{digit_value_digit}
use Rattle.std.proofs.lemmas.Str.Parse.{digit_at}
use Rattle.schedule_lines.specs.Ranges.{is_between}
use Rattle.line_text.specs.Numerals.{begins_well}
use Rattle.line_text.proofs.NumberTexts.{between_parts, decimal_begins_well, is_between_from}
use Rattle.line_text.proofs.Digits.{next_digit, next_value, no_less, read_value, take_beyond, text_of_value, value_of_text}
use Rattle.line_text.proofs.numbers.plain_number.Goals.{then-n-from-via-then-n-from, then-n-from-via-else-n-from+then-not-is_digit}
use Rattle.line_text.proofs.numbers.plain_number.Goals as goal

pub returns-then-not-begins_well-clause-none : goal.returns-then-not-begins_well-clause-none
returns-then-not-begins_well-clause-none c = λ n h.
    let small : n < 2 ^ 32 = omega (arith, h.1) in
    false≢true (c.if-not-begins_well.ensures ∙ ap begins_well h.0 ∙ decimal_begins_well n small)

pub returns-then-n-from-clause-none : goal.returns-then-n-from-clause-none
returns-then-n-from-clause-none c = λ n h.
    let small : c.args.most < 2 ^ 32 = omega arith in
    let text : (digits_value 10 c.args.word.now ≡ n) × AllDigits 10 c.args.word.now = value_of_text c.args.most n c.args.word.now small h in
    elim c.then-n-from.branch [
      | then-n-from-via-then-n-from w ↦ omega (arith, no_less c.loop-c.n (drop c.loop-c.c-index c.args.word.now), c.loop-c.invariant.value, text.0, h.1, w.if-n-from.true, c.from.ensures)
      | then-n-from-via-else-n-from+then-not-is_digit w ↦
          (let r = digit_at c.args.word.now c.loop-c.c-index text.1 c.loop-c-test.true in
          false≢true (sym w.if-not-is_digit.true ∙ (w.is_digit.ensures ∙ is_between_from 48 57 (get_or c.args.word.now c.loop-c.c-index 0) r.0 r.1)))
    ]

pub loop-c-preserved : goal.loop-c-preserved
loop-c-preserved c =
    let x : ℕ = get_or c.args.word.now c.loop-c.c-index 0 in
    let r : (48 ≤ x) × (x ≤ 57) = between_parts 48 57 x (sym c.is_digit.ensures ∙ c.if-not-is_digit.false) in
    let digit : digit_value x ≡ x - 48 = (let d = digit_value_digit x r in omega (arith, d, r.0)) in
    let on : c.loop-c.c-index + 1 ≡ suc c.loop-c.c-index = omega arith in
    record {
      all = subst (λ k. AllDigits 10 (take k c.args.word.now)) (sym on) (next_digit c.args.word.now c.loop-c.c-index c.loop-c-test.true c.loop-c.invariant.all (omega (arith, digit, r.1)));
      value =
          ap (λ d. digits_value_after 10 (c.loop-c.n * 10 + d) (drop (c.loop-c.c-index + 1) c.args.word.now)) (c.from-in-loop-c.ensures ∙ sym digit)
          ∙ (ap (λ k. digits_value_after 10 (c.loop-c.n * 10 + digit_value x) (drop k c.args.word.now)) on
          ∙ (sym (next_value c.args.word.now c.loop-c.c-index c.loop-c.n c.loop-c-test.true) ∙ c.loop-c.invariant.value));
    }

pub returns-then-n-from-2-clause-found : goal.returns-then-n-from-2-clause-found
returns-then-n-from-2-clause-found c =
    let fits : c.loop-c.n ≤ c.args.most = omega (arith, c.from-2.ensures) in (
      text_of_value c.args.word.now c.loop-c.n (subst (AllDigits 10) (take_beyond c.args.word.now c.loop-c.c-index c.loop-c-test.false) c.loop-c.invariant.all)
          (read_value c.args.word.now c.loop-c.c-index c.loop-c.n c.loop-c-test.false c.loop-c.invariant.value) (omega arith) (sym c.if-not-begins_well.ensures),
      fits,
    )

pub returns-else-n-from-2-clause-none : goal.returns-else-n-from-2-clause-none
returns-else-n-from-2-clause-none c = λ n h.
    let small : c.args.most < 2 ^ 32 = omega arith in
    let text : (digits_value 10 c.args.word.now ≡ n) × AllDigits 10 c.args.word.now = value_of_text c.args.most n c.args.word.now small h in
    omega (arith, read_value c.args.word.now c.loop-c.c-index c.loop-c.n c.loop-c-test.false c.loop-c.invariant.value, text.0, h.1, c.if-n-from-2.false, c.from-2.ensures)
