use Rattle.store_laws.proofs.Holdings.Below.{commits_new}
use Rattle.store_laws.proofs.Holdings.MendMending.{mends_now}
use Rattle.store_laws.proofs.mend.mends_have_all_that_is_kept.Goals as goal

pub returns : goal.returns
returns c = λ config trace e d i followed laws inside asks. mends_now config trace e d i laws.packs followed (commits_new config trace followed laws.once) inside asks
