use Rattle.site_laws.proofs.Locks.FactsRun.{run_locks}
use Rattle.site_laws.proofs.lock_laws.tables_are_locked.Goals as goal

pub returns : goal.returns
returns c = λ config lines. run_locks config lines
