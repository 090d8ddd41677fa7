use Rattle.site_laws.proofs.Locks.FactsRun.{run_goes}
use Rattle.site_laws.proofs.lock_laws.instances_go_on.Goals as goal

pub returns : goal.returns
returns c = λ config lines. run_goes config lines
