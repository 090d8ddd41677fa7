use Rattle.the_run.specs.Runs.{delivers}
use Rattle.world.specs.States.{state_of}
use Rattle.complete_laws.specs.Lines.{CanHappen}
use Rattle.complete_laws.specs.MomentEvents.{WhereDelivered}
use Rattle.world.proofs.Rounds.{Rests}
use Rattle.world.proofs.Wanting.{StillNeeds}
use Rattle.world.proofs.world.World.deliver_all.Given as goal

abbrev pub invariant-loop-number : goal.invariant-loop-number
invariant-loop-number l = Rests (λ c w. delivers c l.line l.left w) (λ c w. delivers c l.line l.budget w) (state_of l.initial.self) (state_of l.self) × StillNeeds (λ c w. WhereDelivered (CanHappen c) c l.line l.left w) (λ c w. WhereDelivered (CanHappen c) c l.line l.budget w) (state_of l.initial.self) (state_of l.self)

abbrev pub decreases-loop-number : goal.decreases-loop-number
decreases-loop-number l = l.left
