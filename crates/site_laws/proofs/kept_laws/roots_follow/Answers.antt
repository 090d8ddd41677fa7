use Rattle.site_laws.proofs.Kept.RootsRun.{run_roots}
use Rattle.site_laws.proofs.kept_laws.roots_follow.Goals as goal

pub returns : goal.returns
returns c = λ config lines. run_roots config lines
