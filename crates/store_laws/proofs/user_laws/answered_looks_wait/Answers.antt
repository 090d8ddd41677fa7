use Rattle.store_laws.proofs.Users.Looked.{looks_so}
use Rattle.store_laws.proofs.user_laws.answered_looks_wait.Goals as goal

pub returns : goal.returns
returns c = λ config trace e d request times file w result h steady rests was same again. ((looks_so config trace h steady rests e d request times file w result was same again).waits, (looks_so config trace h steady rests e d request times file w result was same again).asked)
