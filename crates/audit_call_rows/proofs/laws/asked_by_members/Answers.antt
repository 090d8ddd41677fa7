use Rattle.audit_call_rows.proofs.Told.{asked_told}
use Rattle.audit_call_rows.proofs.laws.asked_by_members.Goals as goal

pub returns : goal.returns
returns c = asked_told
