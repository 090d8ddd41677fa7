use Rattle.site_laws.proofs.Locks.GrantsRun.{run_grants}
use Rattle.site_laws.proofs.lock_laws.grants_are_locked.Goals as goal

pub returns : goal.returns
returns c = λ config lines. run_grants config lines
