use Rattle.input_order_laws.proofs.Order.{read_in_order}
use Rattle.input_run.proofs.Standing.{schedule_number, schedule_on, schedule_refuses}
use Rattle.input_run.proofs.Turns.{then_ok}
use Rattle.input_run.proofs.runners.ScheduleRunnerLineRunner.run_next.Goals as goal

pub returns-clause-ran : goal.returns-clause-ran
returns-clause-ran c = λ all lines taken number s.
    then_ok c.run_line.result (c.run_line.ensures.ran lines taken (schedule_number all lines taken _ _ s number) s.ran) (λ next. schedule_on all lines _ taken _ _ s next)

pub returns-clause-bad : goal.returns-clause-bad
returns-clause-bad c = λ all lines taken s e. schedule_refuses all lines _ taken _ s (c.run_line.ensures.bad lines taken s.ran e)

pub returns-clause-complete : goal.returns-clause-complete
returns-clause-complete c = λ all lines taken fault number s e.
    let o = read_in_order all lines s.schedule in
    c.run_line.ensures.complete lines taken fault (schedule_number all lines taken _ _ s number) o s.ran e
