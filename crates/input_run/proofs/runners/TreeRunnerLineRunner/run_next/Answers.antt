use Rattle.input_run.proofs.Order.{asked_on_cluster}
use Rattle.input_run.proofs.Standing.{tree_on, tree_refuses}
use Rattle.input_run.proofs.Turns.{then_ok}
use Rattle.input_run.proofs.runners.TreeRunnerLineRunner.run_next.Goals as goal

pub returns-clause-ran : goal.returns-clause-ran
returns-clause-ran c = λ all lines taken number s. then_ok c.run_line.result (c.run_line.ensures.ran s.calls taken s.ran) (λ next. tree_on all lines _ taken _ _ s next)

pub returns-clause-bad : goal.returns-clause-bad
returns-clause-bad c = λ all lines taken s e. tree_refuses all _ (c.run_line.ensures.bad s.calls taken s.ran e)

pub returns-clause-complete : goal.returns-clause-complete
returns-clause-complete c = λ all lines taken fault number s e.
    let on = asked_on_cluster all s.calls s.asked in
    c.run_line.ensures.complete s.calls taken fault on s.ran e
