use Rattle.past_laws.proofs.Agreeing.{all_agrees, past_reversed}
use Rattle.past_laws.proofs.laws.value_and_folds_agree.Goals as goal

pub returns-clause-agree : goal.returns-clause-agree
returns-clause-agree g c named trace each = all_agrees c named trace each

pub returns-clause-printed : goal.returns-clause-printed
returns-clause-printed g c trace = past_reversed c trace
