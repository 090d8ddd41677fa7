use Rattle.site_laws.proofs.Kept.Hold.{run_kept_hold}
use Rattle.site_laws.proofs.kept_laws.kept_versions_hold.Goals as goal

pub returns : goal.returns
returns c = λ config lines. run_kept_hold config lines
