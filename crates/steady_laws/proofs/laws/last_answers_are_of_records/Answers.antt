use Rattle.steady_laws.proofs.Answered.{was_answered}
use Rattle.steady_laws.proofs.laws.last_answers_are_of_records.Goals as goal

pub returns : goal.returns
returns c = λ config t d earlier a e. was_answered config t d earlier a e
