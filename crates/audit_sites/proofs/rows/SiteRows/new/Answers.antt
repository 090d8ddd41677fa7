use Rattle.audit_sites.proofs.Counted.{first_numbered}
use Rattle.audit_sites.proofs.rows.SiteRows.new.Goals as goal

pub invariant_of-result : goal.invariant_of-result
invariant_of-result c = (first_numbered c.args.config.now c.in_ok-rows.rows.items c.args.config.now.sites c.in_ok-rows.ensures, c.nobody.ensures)
