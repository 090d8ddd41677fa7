use Rattle.std.proofs.Common.{sym}
use Rattle.audit_rows.proofs.releasing.is_closed.Goals as goal

pub returns : goal.returns
returns c = c.is_ended.ensures c.args.t.now (sym c.id.ensures)
