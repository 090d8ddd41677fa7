use Rattle.role_steps.specs.Views.{Calls}
use Rattle.the_run.specs.Worlds.{place_at, happens}
use Rattle.the_run.specs.Runs.{is_busy}
use Rattle.world.proofs.Asking.{unless_asked}
use Rattle.world.specs.States.{state_of}
use Rattle.complete_laws.specs.Lines.{CanHappen}
use Rattle.world.specs.Faults.{WantsMemoryWithin}
use Rattle.std.proofs.Common.{◌≡◌, false, ◌∙◌}
use Rattle.world.proofs.Wanting.{given_on}
use Rattle.world.proofs.world.World.call.Goals as goal

pub returns-clause-step : goal.returns-clause-step
returns-clause-step c = unless_asked c.args.line (λ w. is_busy c.args.process (place_at w c.args.site)) (λ k w. happens k c.args.line c.args.site (Calls c.args.process c.args.call) w) c.is_busy-is_void.result _ _ c.is_busy-is_void.ensures c.in_ok-happen_unless.ensures.step

pub returns-in_err-happen_unless-clause-fit : goal.returns-in_err-happen_unless-clause-fit
returns-in_err-happen_unless-clause-fit c = given_on (WantsMemoryWithin (λ k w. is_busy c.args.process (place_at w c.args.site) ≡ false → CanHappen k c.args.site (Calls c.args.process c.args.call) w) (state_of c.args.self.now)) c.from_residual.result c.in_err-happen_unless.field-0.0 c.from_residual.ensures
    (λ k taken w over sh need. c.in_err-happen_unless.ensures.fit k taken w sh (λ free. need (c.is_busy-is_void.ensures k taken w over sh ∙ free)))
