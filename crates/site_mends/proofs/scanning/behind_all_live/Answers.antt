use Rattle.site_mends.proofs.Live.{behind_live}
use Rattle.site_mends.proofs.scanning.behind_all_live.Goals as goal

pub loop-behind-preserved : goal.loop-behind-preserved
loop-behind-preserved c = λ kept past.
    c.loop-behind.invariant kept (behind_live kept c.loop-behind.rest.now c.in-Some.behind.now c.in-Some.ensures past)
