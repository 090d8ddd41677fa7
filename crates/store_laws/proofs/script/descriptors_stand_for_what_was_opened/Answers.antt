use Rattle.store_laws.proofs.ScriptOpened.{opened_as}
use Rattle.store_laws.proofs.script.descriptors_stand_for_what_was_opened.Goals as goal

pub returns : goal.returns
returns c = λ config trace d caller e fd h k gives. opened_as config trace d caller e fd h k gives
