use Rattle.headline_laws.proofs.HeadlinePromises.AcknowledgedRuns.{run_acknowledged}
use Rattle.headline_laws.proofs.headline.acknowledged_versions_are_new.Goals as goal

pub returns : goal.returns
returns c lines order = run_acknowledged lines order
