use Rattle.row_laws.proofs.Orderly.CalmRounds.{rounds_stay_calm}
use Rattle.row_laws.proofs.orderly_laws.rounds_stay_calm.Goals as goal

pub returns : goal.returns
returns c = λ config. rounds_stay_calm config
