use Rattle.site_laws.proofs.Kept.NamesRun.{run_named}
use Rattle.site_laws.proofs.kept_laws.names_are_versions.Goals as goal

pub returns : goal.returns
returns c = λ config lines. run_named config lines
