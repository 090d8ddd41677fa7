use Rattle.site_laws.proofs.Packs.InstanceAgree.{run_agrees}
use Rattle.site_laws.proofs.instance.instances_agree.Goals as goal

pub returns : goal.returns
returns c = λ config lines. run_agrees config lines
