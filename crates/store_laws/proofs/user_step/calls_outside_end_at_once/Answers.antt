use Rattle.store_laws.proofs.OneTree.UserStepOutside.{calls_outside}
use Rattle.store_laws.proofs.user_step.calls_outside_end_at_once.Goals as goal

pub returns : goal.returns
returns c = λ config n trace me boot process words u past up outside k may rest. calls_outside config n trace me boot process words u past up outside k may
