use Rattle.site_packs.proofs.Live.{behind_live}
use Rattle.site_packs.proofs.scanning.are_surely_live.Goals as goal

pub loop-behind-preserved : goal.loop-behind-preserved
loop-behind-preserved c = λ l.
    c.loop-behind.invariant (behind_live c.loop-behind.rest.now c.in-Some.behind.now c.in-Some.ensures l)
