use Rattle.store_laws.proofs.OneTree.ToldVectorTelling.{vectors_tell_newer}
use Rattle.store_laws.proofs.told_vector.vectors_tell_which_is_newer.Goals as goal

pub returns : goal.returns
returns c = λ config trace past. vectors_tell_newer config trace past
