use Rattle.std.proofs.Common.{arith}
use Rattle.propagation.specs.Choosing.{chooses}
use Rattle.propagation.proofs.Choices.{wait_next, drop_next, drop_fewer, adopt_now}
use Rattle.propagation.proofs.puller.Puller.choose.Goals as goal

pub loop-place-preserved-in-Wait : goal.loop-place-preserved-in-Wait
loop-place-preserved-in-Wait g c = wait_next (g.T.Adopting.ready c.args.site.now) (g.T.Adopting.above c.args.site.now) c.loop-place.self c.loop-place.place c.look_at-look.result (chooses (g.T.Adopting.ready c.args.site.now) (g.T.Adopting.above c.args.site.now) c.args.self.now c.args.self.now) c.look_at-look.ensures c.in-Wait.is c.loop-place.invariant

pub loop-place-smaller : goal.loop-place-smaller
loop-place-smaller g c = drop_fewer (g.T.Adopting.ready c.args.site.now) (g.T.Adopting.above c.args.site.now) c.loop-place.self c.drop_pull.new.self c.loop-place.place c.look_at-look.result c.look_at-look.ensures c.drop_pull.ensures (omega (arith, c.len.ensures, c.loop-place-test.true))

pub loop-place-preserved : goal.loop-place-preserved
loop-place-preserved g c = drop_next (g.T.Adopting.ready c.args.site.now) (g.T.Adopting.above c.args.site.now) c.loop-place.self c.drop_pull.new.self c.loop-place.place c.look_at-look.result (chooses (g.T.Adopting.ready c.args.site.now) (g.T.Adopting.above c.args.site.now) c.args.self.now c.args.self.now) c.look_at-look.ensures c.in-Drop.is c.drop_pull.ensures c.loop-place.invariant

pub returns-in-Adopt-clause-chosen : goal.returns-in-Adopt-clause-chosen
returns-in-Adopt-clause-chosen g c = (adopt_now (g.T.Adopting.ready c.args.site.now) (g.T.Adopting.above c.args.site.now) c.loop-place.self c.take.new.self c.loop-place.place c.look_at-look.result (chooses (g.T.Adopting.ready c.args.site.now) (g.T.Adopting.above c.args.site.now) c.args.self.now c.args.self.now) c.take.result c.look_at-look.ensures c.in-Adopt.is c.take.ensures.taken c.take.ensures.left c.loop-place.invariant).0

pub returns-in-Adopt-clause-left : goal.returns-in-Adopt-clause-left
returns-in-Adopt-clause-left g c = (adopt_now (g.T.Adopting.ready c.args.site.now) (g.T.Adopting.above c.args.site.now) c.loop-place.self c.take.new.self c.loop-place.place c.look_at-look.result (chooses (g.T.Adopting.ready c.args.site.now) (g.T.Adopting.above c.args.site.now) c.args.self.now c.args.self.now) c.take.result c.look_at-look.ensures c.in-Adopt.is c.take.ensures.taken c.take.ensures.left c.loop-place.invariant).1
