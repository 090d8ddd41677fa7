use Rattle.tree_laws.proofs.Waiting.{asking_waits}
use Rattle.tree_laws.proofs.laws.calls_that_ask_wait.Goals as goal

pub returns : goal.returns
returns c = λ config trace e d h k inside asks. asking_waits config trace e d h k inside asks
