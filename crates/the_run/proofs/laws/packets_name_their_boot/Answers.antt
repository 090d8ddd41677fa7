use Rattle.std.proofs.Common.{refl}
use Rattle.the_run.proofs.Boots.{acts_send_as}
use Rattle.the_run.proofs.StepSends.{step_sends}
use Rattle.the_run.proofs.laws.packets_name_their_boot.Goals as goal

pub returns : goal.returns
returns c = λ config n s links v e w. acts_send_as n s v _ w (step_sends config s v.boot links v e refl)
