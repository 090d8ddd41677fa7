use Rattle.std.proofs.Common.{arith, rules, length, ◌≡◌}
use Rattle.shadow_pages.proofs.Steps.{grown_start, grown_step}
use Rattle.shadow_pages.proofs.place.grow.Goals as goal

pub loop-init : goal.loop-init
loop-init c =
    let e : c.len-before.result ≡ length c.args.pages.now.items = search rules in
    record { grown = grown_start c.args.pages.now.items c.len-before.result e; most = omega arith }

pub loop-preserved : goal.loop-preserved
loop-preserved c = record {
  grown = grown_step c.args.pages.now.items c.loop.pages.items c.push.new.self.items c.len-before.result c.loop.counter c.loop.auto.counter c.loop.invariant.grown c.in_default.ensures.items;
  most = omega arith;
}

pub returns-clause-least : goal.returns-clause-least
returns-clause-least c = omega (arith, c.loop.invariant.grown.len, c.loop.invariant.grown.start)
