use Rattle.headline_laws.proofs.Promises.AcknowledgedRuns.{acknowledged_new}
use Rattle.headline_laws.proofs.holding.what_is_acknowledged_is_new.Goals as goal

pub returns : goal.returns
returns c = λ lines order. acknowledged_new lines order
