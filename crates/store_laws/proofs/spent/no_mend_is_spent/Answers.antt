use Rattle.store_laws.proofs.OneTree.SpentRun.{run_mended}
use Rattle.store_laws.proofs.spent.no_mend_is_spent.Goals as goal

pub returns : goal.returns
returns c = λ config lines. run_mended config lines
