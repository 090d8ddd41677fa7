use Rattle.site_laws.proofs.Packs.InstanceAgree.{run_places}
use Rattle.site_laws.proofs.instance.instances_have_one_site.Goals as goal

pub returns : goal.returns
returns c = λ config lines. run_places config lines
