use Rattle.calm_laws.proofs.SentCalm.Run.{run_instances_stand}
use Rattle.calm_laws.proofs.calm_sent_laws.instances_stand.Goals as goal

pub returns : goal.returns
returns c = λ config lines. run_instances_stand config lines
