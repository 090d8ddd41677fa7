use Rattle.site_laws.proofs.Makes.RunningRunTold.{run_stores}
use Rattle.site_laws.proofs.running.stores_stand.Goals as goal

pub returns : goal.returns
returns c = λ config lines. run_stores config lines
