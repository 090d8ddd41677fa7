use Rattle.store_laws.proofs.OneTree.MakeCallProbed.{makes_have_probed}
use Rattle.store_laws.proofs.make_call.makes_have_probed.Goals as goal

pub returns : goal.returns
returns c = λ config trace h e d i group set asks. makes_have_probed config trace h e d i group set asks
