use Rattle.world.specs.States.{AreFirst}
use Rattle.world.proofs.world.add_places.Given as goal

abbrev pub invariant-loop-at : goal.invariant-loop-at
invariant-loop-at l = AreFirst l.config l.at l.places.items
