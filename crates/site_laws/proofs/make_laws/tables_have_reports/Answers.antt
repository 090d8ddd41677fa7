use Rattle.site_laws.proofs.Makes.ReportsRun.{run_reports}
use Rattle.site_laws.proofs.make_laws.tables_have_reports.Goals as goal

pub returns : goal.returns
returns c = run_reports
