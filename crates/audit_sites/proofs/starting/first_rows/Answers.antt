use Rattle.std.proofs.Common.{◌+◌, ◌<◌, arith}
use Rattle.promises.specs.Past.{first_site}
use Rattle.audit_sites.proofs.Counted.{row_more}
use Rattle.audit_sites.proofs.starting.first_rows.Goals as goal

pub loop-place-preserved : goal.loop-place-preserved
loop-place-preserved c =
    let l : c.loop-place.place + 1 < c.args.config.now.sites + 1 = omega (arith, c.loop-place-test.true) in
    row_more (first_site c.args.config.now) (c.loop-place.place + 1) (c.args.config.now.sites + 1) c.loop-place.made.items c.push.new.self.items _ c.in_ok-first_site.field-0 l
    c.in_ok-push.ensures.items c.in_ok-first_site.ensures c.loop-place.invariant
