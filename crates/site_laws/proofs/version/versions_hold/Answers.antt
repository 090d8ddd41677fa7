use Rattle.site_laws.proofs.Kept.VersionHold.{run_versions_hold}
use Rattle.site_laws.proofs.version.versions_hold.Goals as goal

pub returns : goal.returns
returns c = λ config lines. run_versions_hold config lines
