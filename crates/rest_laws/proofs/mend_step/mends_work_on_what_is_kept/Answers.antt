use Rattle.rest_laws.proofs.MendStepWorking.{mends_as}
use Rattle.rest_laws.proofs.mend_step.mends_work_on_what_is_kept.Goals as goal

pub returns : goal.returns
returns c = λ config trace f v past inside few inst small i found d accepted asks. mends_as config trace f v past inside few inst small i found d accepted asks
