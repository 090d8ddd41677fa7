use Rattle.site_laws.proofs.Locks.JoinsRun.{run_joins_once}
use Rattle.site_laws.proofs.lock_laws.joins_are_once.Goals as goal

pub returns : goal.returns
returns c = λ config lines. run_joins_once config lines
