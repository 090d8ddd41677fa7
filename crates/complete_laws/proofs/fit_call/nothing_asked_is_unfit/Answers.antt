use Rattle.complete_laws.proofs.FitCallAgreeing.{run_fits}
use Rattle.complete_laws.proofs.fit_call.nothing_asked_is_unfit.Goals as goal

pub returns : goal.returns
returns c = λ config lines fit packs few x was v e here inside at groups has. run_fits config lines fit packs few x was v e here inside at groups has
