use Rattle.tree_laws.proofs.Later.{earlier_is_over}
use Rattle.tree_laws.proofs.laws.earlier_calls_are_over.Goals as goal

pub returns : goal.returns
returns c = λ config trace e d other h f. earlier_is_over config trace h e d other f
