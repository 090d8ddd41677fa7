use Rattle.std.proofs.Common.{◌≡◌, length, Ok, sym, ap, ◌∙◌, arith}
use Rattle.std.proofs.lemmas.Bool.{false≢true, eqb-true}
use Rattle.hex.specs.Hex.{decode_of}
use Rattle.line_text.specs.Words.{hex_in}
use Rattle.line_text.proofs.HexWords.{gives_none, hex_found, hex_word, not_empty}
use Rattle.line_text.proofs.hex_words.hex_bytes.Goals as goal

pub returns-then-is_empty : goal.returns-then-is_empty
returns-then-is_empty c = gives_none (hex_in c.args.most c.args.word.now) (λ bytes h.
    let none : length c.args.word.now ≡ 0 = eqb-true (length c.args.word.now) 0 (sym c.if-is_empty.ensures) in
    let w = hex_word c.args.most c.args.word.now bytes h in
    omega (arith, w.some))

pub returns-then-word-eq1 : goal.returns-then-word-eq1
returns-then-word-eq1 c = gives_none (hex_in c.args.most c.args.word.now) (λ bytes h.
    let w = hex_word c.args.most c.args.word.now bytes h in
    omega (arith, w.even))

pub returns-then-word-most : goal.returns-then-word-most
returns-then-word-most c = gives_none (hex_in c.args.most c.args.word.now) (λ bytes h.
    let w = hex_word c.args.most c.args.word.now bytes h in
    omega (arith, w.short))

pub returns-then-not-are_lower_digits : goal.returns-then-not-are_lower_digits
returns-then-not-are_lower_digits c = gives_none (hex_in c.args.most c.args.word.now) (λ bytes h.
    let w = hex_word c.args.most c.args.word.now bytes h in
    false≢true (c.if-not-are_lower_digits.ensures ∙ w.lower))

pub returns-in_ok-from_slice-in-Ok : goal.returns-in_ok-from_slice-in-Ok
returns-in_ok-from_slice-in-Ok c =
    let same : c.in-Ok.bytes.items ≡ c.in_ok-from_slice-in-Ok.field-0 = sym (c.in_ok-from_slice-in-Ok.ensures ∙ c.deref.ensures.value) in
    let read : decode_of c.args.word.now ≡ Ok c.in_ok-from_slice-in-Ok.field-0 = c.in-Ok.ensures.ok ∙ ap Ok same in
    sym (hex_found c.args.most c.args.word.now c.in_ok-from_slice-in-Ok.field-0 read (sym c.if-not-are_lower_digits.ensures)
    (not_empty (length c.args.word.now) c.if-is_empty.ensures) (omega arith))
