use Rattle.rest_laws.proofs.MendStepStarting.{mends_start}
use Rattle.rest_laws.proofs.mend_step.mends_start_as_they_may.Goals as goal

pub returns : goal.returns
returns c = λ config rests n trace f v ready inside rest. mends_start config rests n trace f v ready inside rest
