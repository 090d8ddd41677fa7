use Rattle.row_laws.proofs.ArmsKept.{run_keeps_calls}
use Rattle.row_laws.proofs.laws.armed_disks_keep_calls.Goals as goal

pub returns : goal.returns
returns c = λ config lines. run_keeps_calls config lines
