use Rattle.complete_laws.proofs.FitCallTaking.{run_takes}
use Rattle.complete_laws.proofs.fit_call.no_call_is_unfit.Goals as goal

pub returns : goal.returns
returns c = λ config lines fit packs few x was v e here inside groups has m joins. run_takes config lines fit packs few x was v e here inside groups has m joins
