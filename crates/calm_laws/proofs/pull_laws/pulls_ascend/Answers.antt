use Rattle.calm_laws.proofs.Pulls.Ascending.{run_ascends}
use Rattle.calm_laws.proofs.pull_laws.pulls_ascend.Goals as goal

pub returns : goal.returns
returns c = λ config lines. run_ascends config lines
