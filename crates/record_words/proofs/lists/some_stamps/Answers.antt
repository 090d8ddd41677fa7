use Rattle.std.proofs.Common.{sym, ap, ◌∙◌, Some}
use Rattle.record_words.specs.Fields.{stamp_in}
use Rattle.record_words.proofs.Loops.{onto_last, onto_more, onto_never, onto_none, split_shorter}
use Rattle.record_words.proofs.lists.some_stamps.Goals as goal

pub returns-in_default-stamp : goal.returns-in_default-stamp
returns-in_default-stamp c =
    sym (onto_none stamp_in 44 c.loop-word.stamps c.loop-word.rest.now c.in-Some.word.now c.in-Some.more.now c.in-Some.ensures.found (sym c.in_default-stamp.ensures)) ∙ c.loop-word.invariant

pub loop-word-smaller : goal.loop-word-smaller
loop-word-smaller c = split_shorter 44 c.loop-word.rest.now c.in-Some.word.now c.in-Some.more.now c.in-Some.ensures.found

pub loop-word-preserved : goal.loop-word-preserved
loop-word-preserved c =
    let e = onto_more stamp_in 44 c.loop-word.stamps c.loop-word.rest.now c.in-Some.word.now c.in-Some.more.now c.in-Some-stamp.stamp c.in-Some.ensures.found (sym c.in-Some-stamp.ensures) in
    rw c.in_ok-push.ensures.ok (sym e ∙ c.loop-word.invariant)

pub returns-in_default-stamp-2 : goal.returns-in_default-stamp-2
returns-in_default-stamp-2 c =
    sym (onto_never stamp_in 44 c.loop-word.stamps c.loop-word.rest.now c.in_default.ensures.none (sym c.in_default-stamp-2.ensures)) ∙ c.loop-word.invariant

pub returns : goal.returns
returns c =
    let e = onto_last stamp_in 44 c.loop-word.stamps c.loop-word.rest.now c.in-Some-stamp-2.stamp c.in_default.ensures.none (sym c.in-Some-stamp-2.ensures) in
    ap Some c.in_ok-push-2.ensures.ok ∙ sym e ∙ c.loop-word.invariant
