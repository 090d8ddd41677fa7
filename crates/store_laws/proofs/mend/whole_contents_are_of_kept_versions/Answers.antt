use Rattle.store_laws.proofs.Holdings.Below.{commits_new}
use Rattle.store_laws.proofs.Holdings.MendWhole.{whole_kept}
use Rattle.store_laws.proofs.mend.whole_contents_are_of_kept_versions.Goals as goal

pub returns : goal.returns
returns c = λ config trace e d f stamp followed laws inside asks. whole_kept config trace e d f stamp laws.packs followed (commits_new config trace followed laws.once) inside asks
