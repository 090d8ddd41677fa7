use Rattle.rest_laws.proofs.Fits.Running.{run_storable}
use Rattle.rest_laws.proofs.fit_laws.what_runs_may_be_stored.Goals as goal

pub returns : goal.returns
returns c = λ config lines fit packs few s v e here inside. run_storable config lines fit packs few s v e here inside
