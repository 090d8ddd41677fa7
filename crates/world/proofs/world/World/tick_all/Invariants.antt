use Rattle.std.proofs.Common.{drop}
use Rattle.role_steps.specs.Views.{all_sites}
use Rattle.the_run.specs.Runs.{ticks_to}
use Rattle.world.specs.States.{state_of}
use Rattle.complete_laws.specs.Lines.{CanHappen}
use Rattle.complete_laws.specs.MomentEvents.{WhereTicks}
use Rattle.world.proofs.Rounds.{Rests}
use Rattle.world.proofs.Wanting.{StillNeeds}
use Rattle.world.proofs.world.World.tick_all.Given as goal

abbrev pub invariant-loop-at : goal.invariant-loop-at
invariant-loop-at l = Rests (λ c w. ticks_to c l.line (drop l.at all_sites) w) (λ c w. ticks_to c l.line all_sites w) (state_of l.initial.self) (state_of l.self) × StillNeeds (λ c w. WhereTicks (CanHappen c) c l.line (drop l.at all_sites) w) (λ c w. WhereTicks (CanHappen c) c l.line all_sites w) (state_of l.initial.self) (state_of l.self)
