use Rattle.store_laws.proofs.ScriptUntouched.{untouched}
use Rattle.store_laws.proofs.script.untouched_instances_stand_as_granted.Goals as goal

pub returns : goal.returns
returns c = λ config trace e g request i f stamp ss x h was only found. untouched config trace h e g request i f stamp ss x was only found
