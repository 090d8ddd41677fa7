use Rattle.std.proofs.Common.{arith}
use Rattle.world.specs.States.{state_of}
use Rattle.world.proofs.Letters.{hand_goes, hand_stays}
use Rattle.complete_laws.specs.Lines.{CanHappen}
use Rattle.world.specs.Faults.{WantsMemory}
use Rattle.role_steps.specs.Views.{Receives}
use Rattle.world.proofs.Wanting.{given_on}
use Rattle.world.proofs.world.World.hand_over.Goals as goal

pub returns-then-not-is_taken-clause-step : goal.returns-then-not-is_taken-clause-step
returns-then-not-is_taken-clause-step c = hand_stays c.args.line c.args.packet (state_of c.args.self.now) (omega arith) (omega arith) c.is_taken.result c.is_taken.ensures c.if-not-is_taken.true

pub returns-clause-step : goal.returns-clause-step
returns-clause-step c = hand_goes c.args.line c.args.packet (state_of c.args.self.now) (omega arith) (omega arith) c.is_taken.result c.is_taken.ensures _ c.if-not-is_taken.false c.in_ok-receive.ensures.step

pub returns-in_err-receive-clause-fit : goal.returns-in_err-receive-clause-fit
returns-in_err-receive-clause-fit c = given_on (WantsMemory (λ k w. CanHappen k c.args.packet.to (Receives c.args.packet) w) (state_of c.args.self.now)) c.from_residual.result c.in_err-receive.field-0.0 c.from_residual.ensures c.in_err-receive.ensures.fit
