use Rattle.store_laws.proofs.AnswerOwning.{owner_numbered}
use Rattle.store_laws.proofs.answer.operations_are_numbered_by_who_asks.Goals as goal

pub returns : goal.returns
returns c = λ config trace h e d i o inside there asks. owner_numbered config trace h e d i o inside there asks
