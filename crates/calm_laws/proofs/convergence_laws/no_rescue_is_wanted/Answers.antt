use Rattle.calm_laws.proofs.CalmAnswerAnswered.{calm_left}
use Rattle.calm_laws.proofs.Convergence.DirectoriesRescued.{rescued_in_three}
use Rattle.calm_laws.proofs.convergence_laws.no_rescue_is_wanted.Goals as goal

pub returns : goal.returns
returns c = λ config. rescued_in_three config (calm_left config)
