use Rattle.calm_laws.proofs.Packed.{all_go}
use Rattle.calm_laws.proofs.CalmAnswerReports.{report_row}
use Rattle.calm_laws.proofs.calm_answer.reports_carry_on.Goals as goal

pub returns : goal.returns
returns c = λ config. report_row config (all_go config)
