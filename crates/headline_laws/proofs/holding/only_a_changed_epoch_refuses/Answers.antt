use Rattle.headline_laws.proofs.Promises.AcknowledgedRuns.{changed_alone}
use Rattle.headline_laws.proofs.holding.only_a_changed_epoch_refuses.Goals as goal

pub returns : goal.returns
returns c = λ lines order. changed_alone lines order
