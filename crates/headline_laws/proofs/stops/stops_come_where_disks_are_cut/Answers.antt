use Rattle.headline_laws.proofs.HeadlinePromises.Stopping.{run_stops}
use Rattle.headline_laws.proofs.stops.stops_come_where_disks_are_cut.Goals as goal

pub returns : goal.returns
returns c lines order = run_stops lines order
