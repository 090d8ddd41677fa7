use Rattle.site_laws.proofs.Makes.FreshRun.{run_fresh}
use Rattle.site_laws.proofs.make_laws.numbers_are_fresh.Goals as goal

pub returns : goal.returns
returns c = run_fresh
