use Rattle.the_run.proofs.Boots.{run_boots_rise}
use Rattle.the_run.proofs.laws.boot_numbers_rise.Goals as goal

pub returns : goal.returns
returns c = λ config lines more. run_boots_rise config lines more
