use Rattle.std.proofs.Common.{Some, sym, ap, ◌∙◌, refl, arith}
use Rattle.line_text.proofs.SiteLists.{split_shorter, step_last, step_more}
use Rattle.line_text.proofs.site_lists.site_list.Goals as goal

pub returns-in_err-site : goal.returns-in_err-site
returns-in_err-site c =
    let e = step_more c.args.n c.loop-word.least c.loop-word.set c.args.separator c.loop-word.rest.now c.in-Some.word.now c.in-Some.more.now c.in-Some.ensures.found in
    c.from_residual.ensures ∙ sym (sym c.loop-word.invariant.0 ∙ e ∙ rw (← c.in_err-site.ensures) refl)

pub loop-word-smaller : goal.loop-word-smaller
loop-word-smaller c = split_shorter c.args.separator c.loop-word.rest.now c.in-Some.word.now c.in-Some.more.now c.in-Some.ensures.found

pub loop-word-preserved : goal.loop-word-preserved
loop-word-preserved c =
    let e = step_more c.args.n c.loop-word.least c.loop-word.set c.args.separator c.loop-word.rest.now c.in-Some.word.now c.in-Some.more.now c.in-Some.ensures.found in
    (rw (c.with-set.ensures.exact, c.get-least.ensures.value) (sym (rw (← c.in_ok-site.ensures) at e) ∙ c.loop-word.invariant.0), omega arith, omega (arith, c.get-least.ensures.high))

pub returns-in_err-site-2 : goal.returns-in_err-site-2
returns-in_err-site-2 c =
    let e = step_last c.args.n c.loop-word.least c.loop-word.set c.args.separator c.loop-word.rest.now c.in_default.ensures.none in
    c.from_residual-in_err-site-2.ensures ∙ sym (sym c.loop-word.invariant.0 ∙ e ∙ rw (← c.in_err-site-2.ensures) refl)

pub returns : goal.returns
returns c =
    let e = step_last c.args.n c.loop-word.least c.loop-word.set c.args.separator c.loop-word.rest.now c.in_default.ensures.none in
    ap Some c.with.ensures.exact ∙ sym (rw (← c.in_ok-site-2.ensures) at e) ∙ c.loop-word.invariant.0
