use Rattle.site_laws.proofs.Makes.LockedRun.{run_locked}
use Rattle.site_laws.proofs.make_laws.holds_are_locked.Goals as goal

pub returns : goal.returns
returns c = run_locked
