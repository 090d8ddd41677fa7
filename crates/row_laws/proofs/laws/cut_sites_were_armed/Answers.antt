use Rattle.row_laws.proofs.ArmsKept.{run_armed_for}
use Rattle.row_laws.proofs.laws.cut_sites_were_armed.Goals as goal

pub returns : goal.returns
returns c = λ config lines. run_armed_for config lines
