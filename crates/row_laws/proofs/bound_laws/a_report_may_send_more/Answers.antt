use Rattle.row_laws.proofs.Bounds.Waiting.{two_go}
use Rattle.row_laws.proofs.bound_laws.a_report_may_send_more.Goals as goal

pub returns : goal.returns
returns c = two_go
