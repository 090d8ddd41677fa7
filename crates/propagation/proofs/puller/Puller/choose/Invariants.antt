use Rattle.std.proofs.Common.{◌≡◌, ◌-◌, length, drop}
use Rattle.propagation.specs.Choosing.{chooses}
use Rattle.propagation.proofs.puller.Puller.choose.Given as goal

abbrev pub invariant-loop-place : goal.invariant-loop-place
invariant-loop-place g l = chooses (g.T.Adopting.ready l.site) (g.T.Adopting.above l.site) (drop l.place l.self) l.self ≡ chooses (g.T.Adopting.ready l.fn.site) (g.T.Adopting.above l.fn.site) l.fn.self l.fn.self

abbrev pub decreases-loop-place : goal.decreases-loop-place
decreases-loop-place g l = length l.self - l.place
