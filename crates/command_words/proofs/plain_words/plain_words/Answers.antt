use Rattle.std.proofs.Common.{◌≡◌, ◌∙◌, ◌++◌, [], ◌∷◌, ap, ap₂, sym, subst, get_or, take}
use Rattle.std.specs.List.{All}
use Rattle.std.proofs.lemmas.List.{map-append, take_all, take_more}
use Rattle.std.proofs.lemmas.List.Elements.{All-push}
use Rattle.given_words.specs.Plain.{texts}
use Rattle.given_words.specs.Plain.{IsPlain}
use Rattle.command_words.proofs.plain_words.plain_words.Goals as goal

pub loop-word-preserved : goal.loop-word-preserved
loop-word-preserved c =
    let words = c.as_slice-word-items.result.now in
    let i = c.loop-word.word-index in
    let word = get_or words i c.word-item.result in
    let more = take_more words i c.word-item.result c.loop-word-test.true in
    let text = c.in-Some.ensures.text in
    let same : c.as_slice.result.now ≡ word = c.as_slice.ensures ∙ c.word-item.is in (
      ap texts c.in_ok-push-in-Some.ensures.items ∙ (map-append (λ s. s.now) c.loop-word.plain.items (c.in-Some.text ∷ [])
          ∙ (ap₂ (λ xs x. xs ++ x ∷ []) c.loop-word.invariant.0 (text.0 ∙ same) ∙ sym more)),
      subst (All IsPlain) (sym more) (All-push IsPlain (take i words) word c.loop-word.invariant.1 (subst IsPlain same text.1)),
    )

pub returns-clause-plain : goal.returns-clause-plain
returns-clause-plain c =
    let whole = take_all c.loop-word.word-index c.as_slice-word-items.result.now c.loop-word-test.false in
    subst (All IsPlain) (whole ∙ c.as_slice-word-items.ensures) c.loop-word.invariant.1
