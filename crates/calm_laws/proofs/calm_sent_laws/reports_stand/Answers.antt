use Rattle.calm_laws.proofs.SentCalm.Run.{run_reports_stand}
use Rattle.calm_laws.proofs.calm_sent_laws.reports_stand.Goals as goal

pub returns : goal.returns
returns c = λ config lines. run_reports_stand config lines
