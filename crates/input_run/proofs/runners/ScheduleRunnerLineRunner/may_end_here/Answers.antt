use Rattle.std.proofs.Common.{sym, ◌∙◌}
use Rattle.std.proofs.lemmas.Bool.{false≢true}
use Rattle.input_run.proofs.runners.ScheduleRunnerLineRunner.may_end_here.Goals as goal

pub returns-clause-yes : goal.returns-clause-yes
returns-clause-yes c = λ all lines taken s e. sym (c.may_end.ensures lines taken s.ran) ∙ e

pub returns-clause-no : goal.returns-clause-no
returns-clause-no c = λ all lines taken s e ends. false≢true (sym e ∙ (c.may_end.ensures lines taken s.ran ∙ ends))
