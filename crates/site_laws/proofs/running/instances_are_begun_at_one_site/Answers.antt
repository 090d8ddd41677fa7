use Rattle.site_laws.proofs.Makes.RunningOneSite.{run_one_site}
use Rattle.site_laws.proofs.running.instances_are_begun_at_one_site.Goals as goal

pub returns : goal.returns
returns c = λ config lines. run_one_site config lines
