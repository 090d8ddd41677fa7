use Rattle.std.proofs.Common.{◌+◌, arith}
use Rattle.audit_copies.proofs.Tops.{any_copy, tops_on}
use Rattle.audit_copies.proofs.site_ends.tops_of.Goals as goal

pub loop-at-preserved : goal.loop-at-preserved
loop-at-preserved c =
    tops_on c.loop-at.made c.push.new.self c.args.rows.now c.loop-at.at c.last_of_site-last.result (c.last_of_site-last.result + 1) c.stamp_at.result
    c.loop-at.invariant (c.last_of_site-last.ensures.top any_copy) (c.stamp_at.ensures any_copy) (omega arith) c.in_ok-push.ensures.ok
