use Rattle.std.proofs.Common.{◌∙◌, sym, arith}
use Rattle.epoch_rules.proofs.EachSite.{one_linked, one_apart, all_looked}
use Rattle.epoch_rules.proofs.places.reached.Goals as goal

pub loop-place-preserved-then-is_linked : goal.loop-place-preserved-then-is_linked
loop-place-preserved-then-is_linked c = c.with-sites.ensures.exact ∙ one_linked c.args.links.now c.loop-place.place c.site_at-site.result c.loop-place.sites (omega arith) (omega arith) c.site_at-site.ensures c.loop-place.invariant (sym c.is_linked.ensures ∙ c.if-is_linked.true)

pub loop-place-preserved : goal.loop-place-preserved
loop-place-preserved c = one_apart c.args.links.now c.loop-place.place c.site_at-site.result c.loop-place.sites (omega arith) (omega arith) c.site_at-site.ensures c.loop-place.invariant (sym c.is_linked.ensures ∙ c.if-is_linked.false)

pub returns : goal.returns
returns c = all_looked c.args.links.now c.loop-place.place c.loop-place.sites (omega arith) c.loop-place.invariant
