use Rattle.input_run.proofs.Standing.{tree_limit}
use Rattle.input_run.proofs.runners.TreeRunnerLineRunner.limit.Goals as goal

pub returns : goal.returns
returns c = λ all lines taken s. tree_limit lines s.calls _ s.run (c.passed.ensures s.calls taken s.ran)
