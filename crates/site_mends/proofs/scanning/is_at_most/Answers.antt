use Rattle.std.proofs.Common.{sym, ◌∙◌}
use Rattle.site_mends.proofs.Counters.{four_at, greater_here, least_here}
use Rattle.site_mends.proofs.scanning.is_at_most.Goals as goal

pub returns-then-parts-i : goal.returns-then-parts-i
returns-then-parts-i c = sym (sym c.loop-i.invariant ∙ greater_here c.args.parts.now c.args.seen.now c.loop-i.i c.count_of.result c.loop-i-test.true (c.count_of.ensures ∙ four_at c.args.seen.now c.loop-i.i) c.if-parts-i.true)

pub loop-i-preserved : goal.loop-i-preserved
loop-i-preserved c = least_here c.args.parts.now c.args.seen.now c.loop-i.i c.count_of.result c.loop-i-test.true (c.count_of.ensures ∙ four_at c.args.seen.now c.loop-i.i) c.if-parts-i.false ∙ c.loop-i.invariant
