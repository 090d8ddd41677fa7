use Rattle.site_laws.proofs.Makes.FirstRun.{run_first}
use Rattle.site_laws.proofs.make_laws.makes_commit_first.Goals as goal

pub returns : goal.returns
returns c = run_first
