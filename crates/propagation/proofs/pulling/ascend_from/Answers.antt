use Rattle.std.proofs.Common.{◌∙◌, sym, arith}
use Rattle.propagation.proofs.Lists.{ascends_not, ascends_on, ascends_out}
use Rattle.propagation.proofs.pulling.ascend_from.Goals as goal

pub returns-then-from-least : goal.returns-then-from-least
returns-then-from-least c = sym (ascends_not c.loop-page.least c.loop-page.page-index c.from.result c.args.pages.now (omega (arith, c.loop-page-test.true)) c.from.ensures (omega (arith, c.if-from-least.true))) ∙ c.loop-page.invariant

pub loop-page-preserved : goal.loop-page-preserved
loop-page-preserved c = sym (ascends_on c.loop-page.least c.loop-page.page-index c.from-least.result c.args.pages.now (omega (arith, c.loop-page-test.true)) c.from-least.ensures (omega (arith, c.if-from-least.false, c.from.ensures, c.from-least.ensures))) ∙ c.loop-page.invariant

pub returns : goal.returns
returns c = sym (ascends_out c.loop-page.least c.loop-page.page-index c.args.pages.now (omega (arith, c.loop-page-test.false))) ∙ c.loop-page.invariant
