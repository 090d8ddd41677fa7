use Rattle.rest_laws.proofs.Fits.Opens.{run_opens}
use Rattle.rest_laws.proofs.fit_laws.opens_are_of_sites.Goals as goal

pub returns : goal.returns
returns c = λ config lines fit packs few x was. run_opens config lines fit packs few x was
