use Rattle.calm_laws.proofs.CalmAnswerAnswered.{calm_left}
use Rattle.calm_laws.proofs.Convergence.Convergence.{converge}
use Rattle.calm_laws.proofs.convergence_laws.copies_converge.Goals as goal

pub returns : goal.returns
returns c = λ config. converge config (calm_left config)
