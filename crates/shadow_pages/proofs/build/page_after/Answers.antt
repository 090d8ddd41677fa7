use Rattle.std.proofs.Common.{arith}
use Rattle.shadow_pages.proofs.Bytes.{page_met, page_missed}
use Rattle.shadow_pages.proofs.build.page_after.Goals as goal

pub returns-then-from-to : goal.returns-then-from-to
returns-then-from-to c k lt =
    page_met c.args.i k c.args.w.now.size c.args.w.now.at c.min-kept.result c.max-from.result c.min-to.result c.args.w.now.bytes.now c.args.before.now c.put.new.page c.put-then-from-to.new.page lt
    (omega (arith, c.min-kept.ensures, c.min-old.ensures, c.saturating_sub.ensures)) c.put.ensures c.max-from.ensures (omega (arith, c.min-to.ensures)) c.if-from-to.true c.put-then-from-to.ensures

pub returns-else-from-to : goal.returns-else-from-to
returns-else-from-to c k lt =
    page_missed c.args.i k c.args.w.now.size c.args.w.now.at c.min-kept.result c.max-from.result c.min-to.result c.args.w.now.bytes.now c.args.before.now c.put.new.page lt
    (omega (arith, c.min-kept.ensures, c.min-old.ensures, c.saturating_sub.ensures)) c.put.ensures c.max-from.ensures (omega (arith, c.min-to.ensures)) c.if-from-to.false
