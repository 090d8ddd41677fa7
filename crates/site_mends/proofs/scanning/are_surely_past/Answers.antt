use Rattle.site_mends.proofs.scanning.are_surely_past.Goals as goal

pub loop-behind-preserved : goal.loop-behind-preserved
loop-behind-preserved c = λ past. c.loop-behind.invariant (c.in-Some.ensures.past past)
