use Rattle.store_laws.proofs.Holdings.MendOnly.{only_had}
use Rattle.store_laws.proofs.mend.only_kept_versions_are_had.Goals as goal

pub returns : goal.returns
returns c = λ config trace e f site v followed laws only k. only_had config trace e f site v followed laws only k
