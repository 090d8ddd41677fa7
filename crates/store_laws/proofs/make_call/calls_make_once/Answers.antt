use Rattle.store_laws.proofs.OneTree.MakeCallOnce.{calls_make_once, one_make}
use Rattle.store_laws.proofs.make_call.calls_make_once.Goals as goal

pub returns : goal.returns
returns c = record {
  asked = λ config trace h e d i j group set was asks. one_make config trace h e d i j group set was asks;
  begun = λ config trace h e d i j a b. calls_make_once config trace h e d i j a b;
}
