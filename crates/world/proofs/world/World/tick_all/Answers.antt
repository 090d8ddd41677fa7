use Rattle.std.proofs.Common.{◌≡◌, drop, ap, arith}
use Rattle.locus_ids.specs.Sizes.{sites_max}
use Rattle.role_steps.specs.Views.{all_sites}
use Rattle.the_run.specs.Runs.{ticks_to}
use Rattle.world.specs.States.{state_of}
use Rattle.world.proofs.Rounds.{rests_first, rests_done, tick_more}
use Rattle.complete_laws.specs.Lines.{CanHappen}
use Rattle.world.specs.Faults.{WantsMemory}
use Rattle.complete_laws.specs.MomentEvents.{WhereTicks}
use Rattle.world.proofs.Wanting.{given_on, needs_first, tick_needs, tick_wants}
use Rattle.world.proofs.world.World.tick_all.Goals as goal

pub loop-at-init : goal.loop-at-init
loop-at-init c = (rests_first (λ k w. ticks_to k c.args.line all_sites w) (state_of c.args.self.now), needs_first (λ k w. WhereTicks (CanHappen k) k c.args.line all_sites w) (state_of c.args.self.now))

pub loop-at-preserved : goal.loop-at-preserved
loop-at-preserved c = (
  tick_more c.args.line c.loop-at.at c.site_at.result (state_of c.args.self.now) (state_of c.loop-at.self) _ (omega arith) c.site_at.ensures c.loop-at.invariant.0 c.in_ok-tick.ensures.step,
  tick_needs c.args.line c.loop-at.at c.site_at.result (λ k w. WhereTicks (CanHappen k) k c.args.line all_sites w) (state_of c.args.self.now) (state_of c.loop-at.self) _ (omega arith) c.site_at.ensures c.loop-at.invariant.1 c.in_ok-tick.ensures.step,
)

pub returns-clause-step : goal.returns-clause-step
returns-clause-step c = rests_done (λ k w. ticks_to k c.args.line (drop c.loop-at.at all_sites) w) (λ k w. ticks_to k c.args.line all_sites w) (state_of c.args.self.now) (state_of c.loop-at.self) c.loop-at.invariant.0 (λ config taken v sh. let e : c.loop-at.at ≡ sites_max = omega arith in ap (λ j. ticks_to config c.args.line (drop j all_sites) v) e)

pub returns-in_err-tick-clause-fit : goal.returns-in_err-tick-clause-fit
returns-in_err-tick-clause-fit c = given_on (WantsMemory (λ k w. WhereTicks (CanHappen k) k c.args.line all_sites w) (state_of c.args.self.now)) c.from_residual.result c.in_err-tick.field-0.0 c.from_residual.ensures
    (tick_wants c.args.line c.loop-at.at c.site_at.result (λ k w. WhereTicks (CanHappen k) k c.args.line all_sites w) (state_of c.args.self.now) (state_of c.loop-at.self) c.in_err-tick.field-0.0 (omega arith) c.site_at.ensures c.loop-at.invariant.1 c.in_err-tick.ensures.fit)
