use Rattle.the_run.specs.Worlds.{happens}
use Rattle.site_place.specs.Places.{event_of}
use Rattle.world.proofs.Asking.{void_follows, done_follows}
use Rattle.world.specs.States.{state_of}
use Rattle.complete_laws.specs.Lines.{CanHappen}
use Rattle.world.specs.Faults.{WantsMemory}
use Rattle.std.proofs.Common.{◌≡◌, refl, false}
use Rattle.world.specs.declared.fault.WorldFault.TheVariants.{NoMemory}
use Rattle.world.proofs.Wanting.{given_on}
use Rattle.world.proofs.world.World.happen_unless.Goals as goal

pub returns-then-is_void-clause-step : goal.returns-then-is_void-clause-step
returns-then-is_void-clause-step c = void_follows c.args.line (λ k w. happens k c.args.line c.args.site (event_of c.args.event) w) c.args.is_void _ _ c.if-is_void.true c.in_ok-void.ensures

pub returns-clause-step : goal.returns-clause-step
returns-clause-step c = done_follows c.args.line (λ k w. happens k c.args.line c.args.site (event_of c.args.event) w) c.args.is_void _ _ c.if-is_void.false c.in_ok-happen.ensures.step

pub returns-in_err-void-clause-fit : goal.returns-in_err-void-clause-fit
returns-in_err-void-clause-fit c = given_on (WantsMemory (λ k w. c.args.is_void ≡ false → CanHappen k c.args.site (event_of c.args.event) w) (state_of c.args.self.now)) c.from_residual.result NoMemory c.from_residual.ensures (λ k taken w sh need. refl)

pub returns-in_err-happen-clause-fit : goal.returns-in_err-happen-clause-fit
returns-in_err-happen-clause-fit c = given_on (WantsMemory (λ k w. c.args.is_void ≡ false → CanHappen k c.args.site (event_of c.args.event) w) (state_of c.args.self.now)) c.from_residual-in_err-happen.result c.in_err-happen.field-0.0 c.from_residual-in_err-happen.ensures (λ k taken w sh need. c.in_err-happen.ensures.fit k taken w sh (need c.if-is_void.false))
