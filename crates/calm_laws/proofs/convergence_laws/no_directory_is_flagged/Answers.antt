use Rattle.calm_laws.proofs.CalmAnswerAnswered.{calm_left}
use Rattle.calm_laws.proofs.Convergence.DirectoriesUnflagged.{unflagged}
use Rattle.calm_laws.proofs.convergence_laws.no_directory_is_flagged.Goals as goal

pub returns : goal.returns
returns c = λ config. unflagged config (calm_left config)
