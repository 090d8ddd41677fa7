use Rattle.site_laws.proofs.Kept.KeptRun.{run_kept}
use Rattle.site_laws.proofs.kept_laws.commits_are_kept.Goals as goal

pub returns : goal.returns
returns c = λ config lines. run_kept config lines
