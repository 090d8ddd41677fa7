use Rattle.input_run.proofs.runners.ScheduleRunnerLineRunner.take_output.Goals as goal

pub returns : goal.returns
returns c = λ all lines taken s. record { schedule = s.schedule; ran = c.take_fresh.ensures lines taken s.ran }
