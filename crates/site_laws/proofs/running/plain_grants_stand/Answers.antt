use Rattle.site_laws.proofs.Makes.RunningRefusals.{run_plain_grants}
use Rattle.site_laws.proofs.running.plain_grants_stand.Goals as goal

pub returns : goal.returns
returns c = λ config lines. run_plain_grants config lines
