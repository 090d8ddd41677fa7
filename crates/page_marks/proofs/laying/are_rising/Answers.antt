use Rattle.std.proofs.Common.{◌∙◌, refl, sym}
use Rattle.std.proofs.lemmas.Bool.{false≢true}
use Rattle.page_marks.proofs.Rising.{rise_fails, rise_next, inside_fails, inside_next, all_rise}
use Rattle.page_marks.proofs.laying.are_rising.Goals as goal

pub loop-i-init : goal.loop-i-init
loop-i-init c = record { rise = refl; inside = refl }

pub returns-then-page-least : goal.returns-then-page-least
returns-then-page-least c =
    let no = c.loop-i.invariant.rise ∙ rise_fails c.args.numbers.now c.loop-i.i c.from-page.result c.loop-i-test.true c.from-page.ensures c.loop-i.least c.if-page-least.true in
    (λ e. absurd (false≢true e), λ are. absurd (false≢true (sym no ∙ are.ascend)))

pub returns-then-page-count : goal.returns-then-page-count
returns-then-page-count c =
    let no = c.loop-i.invariant.inside ∙ inside_fails c.args.numbers.now c.loop-i.i c.from-page.result c.loop-i-test.true c.from-page.ensures c.args.count c.if-page-count.true in
    (λ e. absurd (false≢true e), λ are. absurd (false≢true (sym no ∙ are.inside)))

pub loop-i-preserved : goal.loop-i-preserved
loop-i-preserved c = record {
  rise = c.loop-i.invariant.rise ∙ rise_next c.args.numbers.now c.loop-i.i c.from-page.result c.loop-i-test.true c.from-page.ensures c.loop-i.least c.if-page-least.false;
  inside = c.loop-i.invariant.inside ∙ inside_next c.args.numbers.now c.loop-i.i c.from-page.result c.loop-i-test.true c.from-page.ensures c.args.count c.if-page-count.false;
}

pub returns : goal.returns
returns c = (λ e. all_rise c.args.count c.loop-i.least c.loop-i.i c.args.numbers.now c.loop-i.invariant.rise c.loop-i.invariant.inside c.loop-i-test.false, λ are. refl)
