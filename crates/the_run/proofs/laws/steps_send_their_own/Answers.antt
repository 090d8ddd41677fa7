use Rattle.std.proofs.Common.{refl}
use Rattle.the_run.proofs.StepSends.{step_sends}
use Rattle.the_run.proofs.laws.steps_send_their_own.Goals as goal

pub returns : goal.returns
returns c = λ config me links v e. step_sends config me v.boot links v e refl
