use Rattle.site_laws.proofs.Makes.Modes.{run_modes}
use Rattle.site_laws.proofs.make_laws.reserves_are_of_makes.Goals as goal

pub returns : goal.returns
returns c = run_modes
