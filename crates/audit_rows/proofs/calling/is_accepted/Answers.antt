use Rattle.std.proofs.Common.{sym}
use Rattle.audit_rows.proofs.calling.is_accepted.Goals as goal

pub returns : goal.returns
returns c = c.may_accept.ensures c.args.told.now (sym c.sites.ensures) (sym c.calls.ensures)
