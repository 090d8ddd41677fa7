use Rattle.rest_laws.proofs.CopiesKept.Hold.{run_versions}
use Rattle.rest_laws.proofs.copy_laws.versions_stand.Goals as goal

pub returns : goal.returns
returns c = λ config lines. run_versions config lines
