use Rattle.tree_laws.proofs.Orders.ProcessCurrent.{answer_waits}
use Rattle.tree_laws.proofs.process.answers_wait_for_their_calls.Goals as goal

pub returns : goal.returns
returns c = λ config trace d request times a h was same again. answer_waits config trace h d request times a was same again
