use Rattle.world.specs.States.{state_of}
use Rattle.complete_laws.specs.Lines.{CanHappen}
use Rattle.world.specs.Faults.{WantsMemory}
use Rattle.role_steps.specs.Views.{Receives}
use Rattle.world.proofs.Wanting.{given_on}
use Rattle.world.proofs.world.World.receive.Goals as goal

pub returns-in_err-happen-clause-fit : goal.returns-in_err-happen-clause-fit
returns-in_err-happen-clause-fit c = given_on (WantsMemory (λ k w. CanHappen k c.args.packet.to (Receives c.args.packet) w) (state_of c.args.self.now)) c.from_residual.result c.in_err-happen.field-0.0 c.from_residual.ensures c.in_err-happen.ensures.fit
