use Rattle.store_laws.proofs.OneTree.SpentRescues.{never_spent}
use Rattle.store_laws.proofs.spent.rescues_have_their_numbers.Goals as goal

pub returns : goal.returns
returns c = λ ds kept. never_spent ds kept
