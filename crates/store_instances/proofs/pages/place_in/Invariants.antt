use Rattle.store_instances.proofs.Placing.{AreBelow}
use Rattle.store_instances.proofs.pages.place_in.Given as goal

abbrev pub invariant-loop-at : goal.invariant-loop-at
invariant-loop-at l = AreBelow l.pages l.at l.page
