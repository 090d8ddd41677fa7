use Rattle.calm_laws.proofs.CalmAnswerAnswered.{leave_nobody}
use Rattle.calm_laws.proofs.calm_answer.calm_rounds_leave_nobody.Goals as goal

pub returns : goal.returns
returns c = λ config. leave_nobody config
