use Rattle.rest_laws.proofs.EpochTreeWaiting.{all_fine}
use Rattle.rest_laws.proofs.epoch_tree.requests_that_waited_are_served.Goals as goal

pub returns : goal.returns
returns c = λ config n trace f es t does ready here started facts groups fresh. all_fine config does n f es trace t ready here started facts groups fresh
