use Rattle.rest_laws.proofs.EpochTreeComing.{reports_come}
use Rattle.rest_laws.proofs.epoch_tree.reports_come_as_they_may.Goals as goal

pub returns : goal.returns
returns c = λ config does n trace f p group copies t ready here came is fresh. reports_come config does n trace f p group copies t ready here came is fresh
