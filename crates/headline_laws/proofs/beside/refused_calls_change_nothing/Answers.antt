use Rattle.headline_laws.proofs.HeadlinePromises.FairRuns.{run_refusals}
use Rattle.headline_laws.proofs.beside.refused_calls_change_nothing.Goals as goal

pub returns : goal.returns
returns c lines order = run_refusals lines order
