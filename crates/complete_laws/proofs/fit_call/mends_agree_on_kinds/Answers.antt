use Rattle.complete_laws.proofs.FitCallAgreeing.{kinds_hold}
use Rattle.complete_laws.proofs.fit_call.mends_agree_on_kinds.Goals as goal

pub returns : goal.returns
returns c = λ config trace packs h f v inside from b. kinds_hold config trace packs h f v inside from b
