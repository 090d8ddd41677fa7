use Rattle.site_laws.proofs.Makes.RunningOrders.{run_as_granted}
use Rattle.site_laws.proofs.running.opens_are_as_granted.Goals as goal

pub returns : goal.returns
returns c = λ config lines. run_as_granted config lines
