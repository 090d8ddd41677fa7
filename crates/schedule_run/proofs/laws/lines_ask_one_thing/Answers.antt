use Rattle.schedule_run.proofs.OneAsking.{one_asking}
use Rattle.schedule_run.proofs.laws.lines_ask_one_thing.Goals as goal

pub returns : goal.returns
returns c = one_asking
