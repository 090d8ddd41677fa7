use Rattle.site_laws.proofs.Makes.Modes.{run_reserved}
use Rattle.site_laws.proofs.make_laws.makes_are_reserved.Goals as goal

pub returns : goal.returns
returns c = run_reserved
