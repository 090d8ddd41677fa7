use Rattle.std.proofs.Common.{◌∙◌, sym, arith}
use Rattle.merge_protocol.specs.Parts.{is_other}
use Rattle.merge_protocol.proofs.Tabled.{site_put, site_skipped}
use Rattle.merge_protocol.proofs.joining.put_others.Goals as goal

pub loop-place-preserved-in-Continue-1 : goal.loop-place-preserved-in-Continue-1
loop-place-preserved-in-Continue-1 c = c.in_ok-put.ensures.ok ∙ site_put (is_other c.args.me c.args.members.now) c.loop-place.place c.site_at-site.result c.loop-place.sites (omega arith) (omega arith) c.site_at-site.ensures (sym c.is_other.ensures ∙ c.if-is_other.true) c.loop-place.invariant

pub loop-place-preserved : goal.loop-place-preserved
loop-place-preserved c = site_skipped (is_other c.args.me c.args.members.now) c.loop-place.place c.site_at-site.result c.loop-place.sites (omega arith) (omega arith) c.site_at-site.ensures (sym c.is_other.ensures ∙ c.if-is_other.false) c.loop-place.invariant
