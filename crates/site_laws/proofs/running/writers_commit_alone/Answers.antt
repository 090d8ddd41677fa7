use Rattle.site_laws.proofs.Makes.RunningAlone.{run_alone}
use Rattle.site_laws.proofs.running.writers_commit_alone.Goals as goal

pub returns : goal.returns
returns c = λ config lines. run_alone config lines
