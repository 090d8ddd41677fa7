use Rattle.headline_laws.proofs.Promises.Steadying.{steady_rounds, together_is_told}
use Rattle.headline_laws.proofs.rounds.steady_rounds_are_calm.Goals as goal

pub returns : goal.returns
returns c = record {
  calm = λ lines order. steady_rounds lines order;
  together = λ lines order. together_is_told lines order;
}
