use Rattle.site_laws.proofs.Packs.InstanceAgree.{run_begun_once}
use Rattle.site_laws.proofs.instance.instances_are_begun_once.Goals as goal

pub returns : goal.returns
returns c = λ config lines. run_begun_once config lines
