use Rattle.row_laws.proofs.Fitting.{schedule_fits}
use Rattle.row_laws.proofs.laws.schedules_fit_their_cluster.Goals as goal

pub returns : goal.returns
returns c = λ lines order. schedule_fits lines order
