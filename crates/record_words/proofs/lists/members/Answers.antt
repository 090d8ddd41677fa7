use Rattle.std.proofs.Common.{sym, ◌∙◌, refl, arith}
use Rattle.record_words.proofs.Loops.{member_last, member_low, member_more, split_shorter}
use Rattle.record_words.proofs.lists.members.Goals as goal

pub returns-in_err-member : goal.returns-in_err-member
returns-in_err-member c =
    let e = member_more c.loop-word.least c.loop-word.boot c.loop-word.rest.now c.in-Some.word.now c.in-Some.more.now c.in-Some.ensures.found in
    c.from_residual.ensures ∙ sym (sym c.loop-word.invariant.0 ∙ e ∙ rw (← c.in_err-member.ensures) refl)

pub loop-word-smaller : goal.loop-word-smaller
loop-word-smaller c = split_shorter 44 c.loop-word.rest.now c.in-Some.word.now c.in-Some.more.now c.in-Some.ensures.found

pub loop-word-preserved : goal.loop-word-preserved
loop-word-preserved c =
    let e = member_more c.loop-word.least c.loop-word.boot c.loop-word.rest.now c.in-Some.word.now c.in-Some.more.now c.in-Some.ensures.found in
    (rw c.from.ensures (sym (rw (← c.in_ok-member.ensures) at e) ∙ c.loop-word.invariant.0), omega arith, omega (arith, member_low c.loop-word.least c.in-Some.word.now c.in_ok-member.member (sym c.in_ok-member.ensures)))

pub returns-in_err-member-2 : goal.returns-in_err-member-2
returns-in_err-member-2 c =
    let e = member_last c.loop-word.least c.loop-word.boot c.loop-word.rest.now c.in_default.ensures.none in
    c.from_residual-in_err-member-2.ensures ∙ sym (sym c.loop-word.invariant.0 ∙ e ∙ rw (← c.in_err-member-2.ensures) refl)

pub returns : goal.returns
returns c =
    let e = member_last c.loop-word.least c.loop-word.boot c.loop-word.rest.now c.in_default.ensures.none in
    rw c.from-2.ensures (sym (rw (← c.in_ok-member-2.ensures) at e) ∙ c.loop-word.invariant.0)
