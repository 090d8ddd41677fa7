use Rattle.rest_laws.proofs.CopiesKept.Hold.{run_versions_and_copies}
use Rattle.rest_laws.proofs.copy_laws.versions_and_copies_hold.Goals as goal

pub returns : goal.returns
returns c = λ config lines fit packs few. run_versions_and_copies config lines fit packs few
