use Rattle.site_laws.proofs.Packs.InstanceAgree.{run_serials}
use Rattle.site_laws.proofs.instance.serials_are_once.Goals as goal

pub returns : goal.returns
returns c = λ config lines. run_serials config lines
