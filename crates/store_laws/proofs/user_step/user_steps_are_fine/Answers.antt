use Rattle.store_laws.proofs.OneTree.UserStepAnswering as answers
use Rattle.store_laws.proofs.OneTree.UserStepCalling as calling
use Rattle.store_laws.proofs.OneTree.UserStepOpening as opening
use Rattle.store_laws.proofs.user_step.user_steps_are_fine.Goals as goal

pub returns : goal.returns
returns c = record {
  looked = λ config rests n trace f p call request take a u ready k came rest. answers.looked config rests n trace f p call request take a u ready k came rest;
  acted = λ config rests n trace f p serial k r u ready has came rest. answers.acted config rests n trace f p serial k r u ready has came rest;
  held = λ config rests n trace f p serial k len u ready has came rest. answers.held config rests n trace f p serial k len u ready has came rest;
  closed = λ config rests n trace f p serial a u ready has came rest. answers.closed config rests n trace f p serial a u ready has came rest;
  opened = λ config rests n trace f p serial a v ready k came rest. opening.opened config rests n trace f p serial a v ready k came rest;
  calls = λ config rests n trace f process words u ready k may rest. calling.calls config rests n trace f process words u ready k may rest;
}
