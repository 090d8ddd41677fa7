use Rattle.world.specs.States.{state_of}
use Rattle.complete_laws.specs.Lines.{CanHappen}
use Rattle.world.specs.Faults.{WantsMemory}
use Rattle.role_steps.specs.Views.{all_sites}
use Rattle.the_run.specs.Runs.{ticks_to}
use Rattle.complete_laws.specs.MomentEvents.{WhereDelivered, WhereTicks}
use Rattle.world.proofs.Wanting.{given_on}
use Rattle.world.proofs.world.World.settle.Goals as goal

pub returns-clause-step : goal.returns-clause-step
returns-clause-step c = λ config taken w o sh. c.in_ok-deliver_all.ensures.step config taken _ (c.in_ok-tick_all.ensures.step config taken w sh)

pub returns-in_err-tick_all-clause-fit : goal.returns-in_err-tick_all-clause-fit
returns-in_err-tick_all-clause-fit c = given_on (WantsMemory (λ k w. WhereTicks (CanHappen k) k c.args.line all_sites w × WhereDelivered (CanHappen k) k c.args.line c.args.budget (ticks_to k c.args.line all_sites w)) (state_of c.args.self.now)) c.from_residual.result c.in_err-tick_all.field-0.0 c.from_residual.ensures (λ k taken w sh need. c.in_err-tick_all.ensures.fit k taken w sh need.0)

pub returns-in_err-deliver_all-clause-fit : goal.returns-in_err-deliver_all-clause-fit
returns-in_err-deliver_all-clause-fit c = given_on (WantsMemory (λ k w. WhereTicks (CanHappen k) k c.args.line all_sites w × WhereDelivered (CanHappen k) k c.args.line c.args.budget (ticks_to k c.args.line all_sites w)) (state_of c.args.self.now)) c.from_residual-in_err-deliver_all.result c.in_err-deliver_all.field-0.0 c.from_residual-in_err-deliver_all.ensures (λ k taken w sh need. c.in_err-deliver_all.ensures.fit k taken _ (c.in_ok-tick_all.ensures.step k taken w sh) need.1)
