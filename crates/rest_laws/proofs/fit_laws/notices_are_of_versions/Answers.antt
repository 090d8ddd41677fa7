use Rattle.rest_laws.proofs.Fits.Pulling.{run_notices}
use Rattle.rest_laws.proofs.fit_laws.notices_are_of_versions.Goals as goal

pub returns : goal.returns
returns c = λ config lines fit packs few x was. run_notices config lines fit packs few x was
