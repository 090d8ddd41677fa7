use Rattle.complete_laws.proofs.FitCallAdopting.{run_adopts}
use Rattle.complete_laws.proofs.fit_call.no_adoption_is_unfit.Goals as goal

pub returns : goal.returns
returns c = λ config lines fit packs few s v e here inside p among ready own groups has. run_adopts config lines fit packs few s v e here inside p among ready own groups has
