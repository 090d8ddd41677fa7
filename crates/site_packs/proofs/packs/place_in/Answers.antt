use Rattle.site_packs.proofs.Behind.{place_found}
use Rattle.site_packs.proofs.packs.place_in.Goals as goal
use Rattle.std.proofs.Common.{◌∙◌, sym}

pub returns-then-group-clause-some : goal.returns-then-group-clause-some
returns-then-group-clause-some c = place_found c.args.group c.loop-i.i c.args.packs.now c.index-packs-i.result c.loop-i-test.true c.index-packs-i.is (sym c.group.ensures ∙ c.if-group.true) c.loop-i.invariant
