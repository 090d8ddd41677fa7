use Rattle.std.proofs.Common.{◌∙◌}
use Rattle.schedule_run.proofs.runner.ScheduleRunner.happen.Goals as goal

pub returns-in-Ok-clause-world : goal.returns-in-Ok-clause-world
returns-in-Ok-clause-world c = λ lines taken en config stands. c.act.ensures.world lines taken en (c.in-Ok.ensures.world lines taken config stands)

pub returns-in-Ok-clause-complete : goal.returns-in-Ok-clause-complete
returns-in-Ok-clause-complete c = λ lines taken fault n config o stands e. c.act.ensures.complete lines taken fault n o (c.in-Ok.ensures.world lines taken config stands) e

pub returns-in-Err-clause-good : goal.returns-in-Err-clause-good
returns-in-Err-clause-good c = λ e. c.begin.ensures.good (c.in-Err.is ∙ e)

pub returns-in-Err-clause-complete : goal.returns-in-Err-clause-complete
returns-in-Err-clause-complete c = λ lines taken fault n config o stands e. absurd (c.begin.ensures.complete fault (c.in-Err.is ∙ e))
