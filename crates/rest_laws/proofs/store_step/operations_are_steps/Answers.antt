use Rattle.rest_laws.proofs.StoreStepSteps.{acts_fine}
use Rattle.rest_laws.proofs.store_step.operations_are_steps.Goals as goal

pub returns : goal.returns
returns c = λ config left n trace f p serial k o seen v ready inside came rest. acts_fine config left n trace f p serial k o seen v ready inside came rest
