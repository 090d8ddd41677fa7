use Rattle.input_run.proofs.Standing.{tree_output}
use Rattle.input_run.proofs.runners.TreeRunnerLineRunner.output.Goals as goal

pub returns : goal.returns
returns c = λ all lines taken s. tree_output lines s.calls taken c.fresh.result.now s.run (c.fresh.ensures s.calls taken s.ran)
