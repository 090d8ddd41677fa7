use Rattle.headline_laws.proofs.Promises.Delivered.{calm_rounds_deliver}
use Rattle.headline_laws.proofs.rounds.calm_rounds_deliver_all.Goals as goal

pub returns : goal.returns
returns c = λ lines order within. calm_rounds_deliver lines order within
