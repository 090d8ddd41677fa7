use Rattle.std.proofs.Common.{arith}
use Rattle.shadow_pages.proofs.Counts.{count_step}
use Rattle.shadow_pages.proofs.place.count_changed.Goals as goal
use Rattle.shadow_pages.proofs.place.count_changed.Goals.{then-not-is_unchanged, else-not-is_unchanged}

pub loop-i-preserved : goal.loop-i-preserved
loop-i-preserved c =
    let step = rw (← c.is_unchanged.ensures) at (count_step c.args.pages.now c.loop-i.i c.loop-i.count c.loop-i-test.true c.loop-i.invariant.0) in
    elim c.if-not-is_unchanged.branch [
      | then-not-is_unchanged w ↦ (omega (arith, w.count-is, rw w.if-not-is_unchanged.true at step), omega (arith, w.count-is, c.loop-i.invariant.1))
      | else-not-is_unchanged w ↦ (omega (arith, w.count-is, rw w.if-not-is_unchanged.false at step), omega (arith, w.count-is, c.loop-i.invariant.1))
    ]
