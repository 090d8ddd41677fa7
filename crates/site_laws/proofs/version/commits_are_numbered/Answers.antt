use Rattle.site_laws.proofs.Vectors.FactsRun.{run_numbered}
use Rattle.site_laws.proofs.Packs.InstanceAgree.{run_agrees}
use Rattle.site_laws.proofs.version.commits_are_numbered.Goals as goal

pub returns : goal.returns
returns c = λ config lines. run_numbered config lines (run_agrees config lines)
