use Rattle.the_run.proofs.OneList.{run_promises_rise}
use Rattle.the_run.proofs.laws.promised_ids_rise.Goals as goal

pub returns : goal.returns
returns c = λ config lines more. run_promises_rise config lines more
