use Rattle.std.proofs.Common.{◌+◌, refl}
use Rattle.world.specs.States.{first_state}
use Rattle.world.proofs.First.{first_more}
use Rattle.world.proofs.world.add_places.Goals as goal

pub loop-at-preserved : goal.loop-at-preserved
loop-at-preserved c = first_more c.args.config.now c.loop-at.at (c.loop-at.at + 1) c.loop-at.places.items _ (first_state c.args.config.now (c.loop-at.at + 1)) c.loop-at.invariant refl refl c.in_ok-add_place.ensures
