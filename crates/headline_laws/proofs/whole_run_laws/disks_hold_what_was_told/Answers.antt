use Rattle.headline_laws.proofs.WholeRuns.Disks.{disks_hold}
use Rattle.headline_laws.proofs.whole_run_laws.disks_hold_what_was_told.Goals as goal

pub returns : goal.returns
returns c = λ lines order. disks_hold lines order
