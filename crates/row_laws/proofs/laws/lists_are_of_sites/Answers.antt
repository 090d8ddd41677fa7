use Rattle.row_laws.proofs.AskedRun.{run_lists}
use Rattle.row_laws.proofs.laws.lists_are_of_sites.Goals as goal

pub returns : goal.returns
returns c = λ config lines. run_lists config lines
