use Rattle.rest_laws.proofs.StoreStepFirst.{first_held}
use Rattle.rest_laws.proofs.store_step.formatted_disks_are_held.Goals as goal

pub returns : goal.returns
returns c = λ config few me. first_held config few me
