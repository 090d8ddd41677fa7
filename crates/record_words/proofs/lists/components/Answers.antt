use Rattle.std.proofs.Common.{sym, ap, ◌∙◌, Some}
use Rattle.record_words.specs.Fields.{component_in}
use Rattle.record_words.proofs.Loops.{onto_last, onto_more, onto_never, onto_none, split_shorter}
use Rattle.record_words.proofs.lists.components.Goals as goal

pub returns-in_default-2 : goal.returns-in_default-2
returns-in_default-2 c =
    sym (onto_none component_in 32 c.loop-word.names c.loop-word.rest.now c.in-Some.word.now c.in-Some.more.now c.in-Some.ensures.found (sym c.in_ok-name.ensures ∙ c.in_default-2.is)) ∙ c.loop-word.invariant

pub loop-word-smaller : goal.loop-word-smaller
loop-word-smaller c = split_shorter 32 c.loop-word.rest.now c.in-Some.word.now c.in-Some.more.now c.in-Some.ensures.found

pub loop-word-preserved : goal.loop-word-preserved
loop-word-preserved c =
    let e = onto_more component_in 32 c.loop-word.names c.loop-word.rest.now c.in-Some.word.now c.in-Some.more.now c.in-Some-2.name c.in-Some.ensures.found (sym c.in_ok-name.ensures ∙ c.in-Some-2.is) in
    rw c.in_ok-push.ensures.ok (sym e ∙ c.loop-word.invariant)

pub returns-in_default-3 : goal.returns-in_default-3
returns-in_default-3 c =
    sym (onto_never component_in 32 c.loop-word.names c.loop-word.rest.now c.in_default.ensures.none (sym c.in_ok-name-2.ensures ∙ c.in_default-3.is)) ∙ c.loop-word.invariant

pub returns : goal.returns
returns c =
    let e = onto_last component_in 32 c.loop-word.names c.loop-word.rest.now c.in-Some-3.name c.in_default.ensures.none (sym c.in_ok-name-2.ensures ∙ c.in-Some-3.is) in
    ap Some c.in_ok-push-2.ensures.ok ∙ sym e ∙ c.loop-word.invariant
