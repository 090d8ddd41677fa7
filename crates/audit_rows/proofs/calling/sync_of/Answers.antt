use Rattle.audit_opens.proofs.Lacking.{sync_told}
use Rattle.audit_rows.proofs.calling.sync_of.Goals as goal

pub returns : goal.returns
returns c = sync_told c.args.config.now c.args.t.now c.args.group c.members.result c.sync_site.result c.sync_site.ensures c.members.ensures
