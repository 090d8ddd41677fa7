use Rattle.site_laws.proofs.Locks.Asked.{run_asked_begun}
use Rattle.site_laws.proofs.lock_laws.what_is_asked_is_begun.Goals as goal

pub returns : goal.returns
returns c = λ config lines. run_asked_begun config lines
