use Rattle.site_laws.proofs.Kept.KeptRun.{run_ordered}
use Rattle.site_laws.proofs.kept_laws.versions_are_ordered.Goals as goal

pub returns : goal.returns
returns c = λ config lines. run_ordered config lines
