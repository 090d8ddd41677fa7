use Rattle.key_places.proofs.Remembered.{empty_fit}
use Rattle.key_places.proofs.recent.empty_slots.Goals as goal

pub returns : goal.returns
returns c keys = empty_fit c.loop.slots.items c.loop.invariant.0 keys
