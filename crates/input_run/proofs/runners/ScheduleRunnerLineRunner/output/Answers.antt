use Rattle.input_run.proofs.runners.ScheduleRunnerLineRunner.output.Goals as goal

pub returns : goal.returns
returns c = λ all lines taken s. c.fresh.ensures lines taken s.ran
