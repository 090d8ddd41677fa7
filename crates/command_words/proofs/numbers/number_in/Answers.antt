use Rattle.std.proofs.Common.{◌≡◌, ◌∙◌, ap, not, sym}
use Rattle.std.specs.Fmt.{decimal}
use Rattle.std.proofs.lemmas.Bool.{false≢true}
use Rattle.std.proofs.lemmas.Slice.Eq.{bytes_eq-Decides}
use Rattle.std.proofs.lemmas.Fmt.{parse-decimal}
use Rattle.command_words.proofs.numbers.number_in.Goals as goal

pub returns-in_default-clause-bad : goal.returns-in_default-clause-bad
returns-in_default-clause-bad c = λ _ n small h. c.in_default.not-Ok n (parse-decimal 64 n c.args.word.now c.parse.result small small h c.parse.ensures.value.0)

pub returns-then-ne-clause-bad : goal.returns-then-ne-clause-bad
returns-then-ne-clause-bad c = λ _ n small h.
    let parsed = parse-decimal 64 n c.args.word.now c.parse.result small small h c.parse.ensures.value.0 in
    let same : c.in-Ok.number ≡ n = cc in
    let text : c.as_str.result.now ≡ c.args.word.now = c.as_str.ensures.value ∙ (c.in_ok-own_text.ensures.ok ∙ (ap decimal same ∙ sym h)) in
    false≢true (sym (c.ne.ensures ∙ ap not ((bytes_eq-Decides c.as_str.result.now c.args.word.now).1 text)) ∙ c.if-ne.true)
