use Rattle.calm_laws.proofs.CalmAnswerAnswered.{calm_left}
use Rattle.calm_laws.proofs.Convergence.DirectoriesRescued.{rescued}
use Rattle.calm_laws.proofs.convergence_laws.undisturbed_directories_want_no_rescue.Goals as goal

pub returns : goal.returns
returns c = λ config. rescued config (calm_left config)
