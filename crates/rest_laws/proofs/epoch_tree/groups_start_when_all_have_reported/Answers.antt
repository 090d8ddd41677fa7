use Rattle.rest_laws.proofs.EpochTreeStarting.{starts_fine}
use Rattle.rest_laws.proofs.epoch_tree.groups_start_when_all_have_reported.Goals as goal

pub returns : goal.returns
returns c = λ config n trace f t does ready here waits reported files groups fresh. starts_fine config n trace f t does ready here waits reported files groups fresh
