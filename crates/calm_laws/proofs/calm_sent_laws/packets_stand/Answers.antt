use Rattle.calm_laws.proofs.SentCalm.Run.{run_packets_stand}
use Rattle.calm_laws.proofs.calm_sent_laws.packets_stand.Goals as goal

pub returns : goal.returns
returns c = λ config lines. run_packets_stand config lines
