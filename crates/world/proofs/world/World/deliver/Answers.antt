use Rattle.world.specs.States.{state_of}
use Rattle.world.proofs.Letters.{deliver_yes, deliver_no}
use Rattle.complete_laws.specs.Lines.{CanHappen}
use Rattle.world.specs.Faults.{WantsMemoryWithin}
use Rattle.the_run.specs.Runs.{packet_at}
use Rattle.complete_laws.specs.MomentEvents.{WherePacket}
use Rattle.std.proofs.Common.{refl}
use Rattle.world.specs.declared.fault.WorldFault.TheVariants.{NoMemory}
use Rattle.world.proofs.Wanting.{given_on}
use Rattle.world.proofs.Letters.{deliver_wants_one}
use Rattle.world.proofs.world.World.deliver.Goals as goal

pub returns-then-may_come-clause-step : goal.returns-then-may_come-clause-step
returns-then-may_come-clause-step c = deliver_yes c.args.line c.args.number (state_of c.args.self.now) _ c.may_come.result c.may_come.ensures c.if-may_come.true c.in_ok-arrive.ensures.step

pub returns-clause-step : goal.returns-clause-step
returns-clause-step c = deliver_no c.args.line c.args.number (state_of c.args.self.now) _ c.may_come.result c.may_come.ensures c.if-may_come.false c.in_ok-void.ensures

pub returns-in_err-arrive-clause-fit : goal.returns-in_err-arrive-clause-fit
returns-in_err-arrive-clause-fit c = given_on (WantsMemoryWithin (λ k w. WherePacket (CanHappen k) (packet_at w c.args.number) w) (state_of c.args.self.now)) c.from_residual.result c.in_err-arrive.field-0.0 c.from_residual.ensures (deliver_wants_one c.args.number (state_of c.args.self.now) c.in_err-arrive.field-0.0 c.may_come.result c.may_come.ensures c.if-may_come.true c.in_err-arrive.ensures.fit)

pub returns-in_err-void-clause-fit : goal.returns-in_err-void-clause-fit
returns-in_err-void-clause-fit c = given_on (WantsMemoryWithin (λ k w. WherePacket (CanHappen k) (packet_at w c.args.number) w) (state_of c.args.self.now)) c.from_residual-in_err-void.result NoMemory c.from_residual-in_err-void.ensures (λ k taken w over sh need. refl)
