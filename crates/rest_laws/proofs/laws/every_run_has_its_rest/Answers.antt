use Rattle.rest_laws.proofs.Resting.{run_low, run_rests}
use Rattle.rest_laws.proofs.laws.every_run_has_its_rest.Goals as goal

pub returns : goal.returns
returns c = λ config lines fit packs. run_rests config lines fit packs (run_low config lines)
