use Rattle.calm_laws.proofs.CalmAnswerLooksKnown.{looks_known}
use Rattle.calm_laws.proofs.calm_answer.looks_are_known.Goals as goal

pub returns : goal.returns
returns c = λ config lines n e w round together. looks_known config lines n e w round together
