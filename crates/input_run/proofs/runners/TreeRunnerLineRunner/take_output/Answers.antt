use Rattle.input_run.proofs.Standing.{tree_taken}
use Rattle.input_run.proofs.runners.TreeRunnerLineRunner.take_output.Goals as goal

pub returns : goal.returns
returns c = λ all lines taken s. tree_taken all lines taken _ _ s (c.take_fresh.ensures s.calls taken s.ran)
