use Rattle.std.proofs.Common.{sym, ap, ◌∙◌, Some}
use Rattle.record_words.specs.Fields.{brought_in}
use Rattle.record_words.proofs.Loops.{onto_last, onto_more, onto_never, onto_none, split_shorter}
use Rattle.record_words.proofs.lists.all_copies.Goals as goal

pub returns-in_default-brought : goal.returns-in_default-brought
returns-in_default-brought c =
    sym (onto_none brought_in 32 c.loop-word.copies c.loop-word.rest.now c.in-Some.word.now c.in-Some.more.now c.in-Some.ensures.found (sym c.in_default-brought.ensures)) ∙ c.loop-word.invariant

pub loop-word-smaller : goal.loop-word-smaller
loop-word-smaller c = split_shorter 32 c.loop-word.rest.now c.in-Some.word.now c.in-Some.more.now c.in-Some.ensures.found

pub loop-word-preserved : goal.loop-word-preserved
loop-word-preserved c =
    let e = onto_more brought_in 32 c.loop-word.copies c.loop-word.rest.now c.in-Some.word.now c.in-Some.more.now c.in-Some-brought.copy c.in-Some.ensures.found (sym c.in-Some-brought.ensures) in
    rw c.in_ok-push.ensures.ok (sym e ∙ c.loop-word.invariant)

pub returns-in_default-brought-2 : goal.returns-in_default-brought-2
returns-in_default-brought-2 c =
    sym (onto_never brought_in 32 c.loop-word.copies c.loop-word.rest.now c.in_default.ensures.none (sym c.in_default-brought-2.ensures)) ∙ c.loop-word.invariant

pub returns : goal.returns
returns c =
    let e = onto_last brought_in 32 c.loop-word.copies c.loop-word.rest.now c.in-Some-brought-2.copy c.in_default.ensures.none (sym c.in-Some-brought-2.ensures) in
    ap Some c.in_ok-push-2.ensures.ok ∙ sym e ∙ c.loop-word.invariant
