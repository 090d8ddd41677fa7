use Rattle.headline_laws.proofs.WholeRuns.Rounds.{large_rounds}
use Rattle.headline_laws.proofs.whole_run_laws.large_rounds_end.Goals as goal

pub returns : goal.returns
returns c = λ config lines. large_rounds config lines
