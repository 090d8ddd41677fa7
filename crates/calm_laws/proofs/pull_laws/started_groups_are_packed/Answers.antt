use Rattle.calm_laws.proofs.Pulls.Served.{started_packed}
use Rattle.calm_laws.proofs.pull_laws.started_groups_are_packed.Goals as goal

pub returns : goal.returns
returns c = λ config trace followed e group started. started_packed config trace followed e group started
