use Rattle.site_laws.proofs.Makes.RunningRunTold.{run_instances}
use Rattle.site_laws.proofs.running.instances_run.Goals as goal

pub returns : goal.returns
returns c = λ config lines. run_instances config lines
