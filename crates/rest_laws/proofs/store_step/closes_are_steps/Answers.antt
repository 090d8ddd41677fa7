use Rattle.rest_laws.proofs.StoreStepSteps.{closes_fine}
use Rattle.rest_laws.proofs.store_step.closes_are_steps.Goals as goal

pub returns : goal.returns
returns c = λ config n trace f p serial s ready held came rest. closes_fine config n trace f p serial s ready held came rest
