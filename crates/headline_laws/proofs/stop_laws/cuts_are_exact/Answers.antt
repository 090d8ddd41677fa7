use Rattle.headline_laws.proofs.StopRuns.Course.{schedule_exact}
use Rattle.headline_laws.proofs.stop_laws.cuts_are_exact.Goals as goal

pub returns : goal.returns
returns c = λ lines order. schedule_exact lines order
