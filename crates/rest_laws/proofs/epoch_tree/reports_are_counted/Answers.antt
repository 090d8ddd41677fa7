use Rattle.rest_laws.proofs.EpochTreeReporting.{report_fine}
use Rattle.rest_laws.proofs.epoch_tree.reports_are_counted.Goals as goal

pub returns : goal.returns
returns c = λ config n trace f from xs t does ready here all may fresh. report_fine config does n trace f from xs t ready here all may fresh
