use Rattle.store_laws.proofs.AnswerDone.{done_low}
use Rattle.store_laws.proofs.AnswerRemovers.{open_here, remover_opened}
use Rattle.store_laws.proofs.answer.operations_are_of_who_asks.Goals as goal

pub returns : goal.returns
returns c = record {
  here = λ config trace h e group i x found. open_here config trace h e group i x found;
  done = λ config trace h e i number o r x was found. done_low config trace h e i number o r x was found;
  removers = λ config trace h e i x d number name ino found owner asks. remover_opened config trace h e i x d number name ino found owner asks;
}
