use Rattle.input_run.proofs.runners.ScheduleRunnerLineRunner.limit.Goals as goal

pub returns : goal.returns
returns c = λ all lines taken s. c.passed.ensures lines taken s.ran
