use Rattle.headline_laws.proofs.Promises.OneHistory.{history_is_one}
use Rattle.headline_laws.proofs.one_trace.the_history_is_one.Goals as goal

pub returns : goal.returns
returns r = λ c w. history_is_one c w
