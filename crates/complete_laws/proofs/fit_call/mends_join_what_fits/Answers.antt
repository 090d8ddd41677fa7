use Rattle.complete_laws.proofs.FitCallJoining.{run_joins}
use Rattle.complete_laws.proofs.fit_call.mends_join_what_fits.Goals as goal

pub returns : goal.returns
returns c = λ config lines fit packs few x was v e here inside at groups has kinds. run_joins config lines fit packs few x was v e here inside at groups has kinds
