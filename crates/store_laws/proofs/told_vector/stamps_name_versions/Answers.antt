use Rattle.store_laws.proofs.OneTree.ToldVectorOnly.{same_version}
use Rattle.store_laws.proofs.told_vector.stamps_name_versions.Goals as goal

pub returns : goal.returns
returns c = λ config trace f past v w k h e. same_version config trace f past v w k h e
