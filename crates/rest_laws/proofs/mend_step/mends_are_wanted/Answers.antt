use Rattle.rest_laws.proofs.MendStepWanted.{may_mend_it}
use Rattle.rest_laws.proofs.mend_step.mends_are_wanted.Goals as goal

pub returns : goal.returns
returns c = λ config trace f v past inside t here started alone r found. may_mend_it config trace f v past inside t here started alone r found
