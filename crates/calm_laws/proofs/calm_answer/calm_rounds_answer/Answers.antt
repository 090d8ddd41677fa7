use Rattle.calm_laws.proofs.CalmAnswerAnswered.{rounds_answer}
use Rattle.calm_laws.proofs.calm_answer.calm_rounds_answer.Goals as goal

pub returns : goal.returns
returns c = λ lines order within. rounds_answer lines order within
