use Rattle.std.proofs.Common.{refl}
use Rattle.world.proofs.First.{first_shown}
use Rattle.world.proofs.world.World.new.Goals as goal

pub returns : goal.returns
returns c = first_shown c.args.config _ c.args.writing refl c.in_ok-places.ensures c.new-2.ensures c.in_ok-book.ensures
