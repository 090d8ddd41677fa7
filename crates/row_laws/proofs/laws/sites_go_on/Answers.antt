use Rattle.row_laws.proofs.SitesGoOn.{run_sites}
use Rattle.row_laws.proofs.laws.sites_go_on.Goals as goal

pub returns : goal.returns
returns c = λ config lines. run_sites config lines
