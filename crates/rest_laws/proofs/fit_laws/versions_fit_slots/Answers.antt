use Rattle.the_run.specs.Runs.{run_in}
use Rattle.rest_laws.proofs.Fits.Slots.{version_slot}
use Rattle.rest_laws.proofs.Fits.Tables.{past_of_run}
use Rattle.rest_laws.proofs.fit_laws.versions_fit_slots.Goals as goal

pub returns : goal.returns
returns c = λ config lines fit packs few f stamp stands. version_slot config (run_in config lines).trace (past_of_run config lines fit packs few) f stamp stands
