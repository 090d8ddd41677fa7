use Rattle.calm_laws.proofs.Calm.{round_carries}
use Rattle.calm_laws.proofs.CalmAnswerAnswered.{calm_left}
use Rattle.calm_laws.proofs.calm_answer.calm_rounds_carry.Goals as goal

pub returns : goal.returns
returns c = λ config lines n e k j calm low. round_carries config (calm_left config) lines n e k j calm low
