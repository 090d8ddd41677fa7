use Rattle.rest_laws.proofs.Fits.Pulling.{run_pulls}
use Rattle.rest_laws.proofs.fit_laws.what_is_pulled_may_be_adopted.Goals as goal

pub returns : goal.returns
returns c = λ config lines fit packs few s v e here inside. run_pulls config lines fit packs few s v e here inside
