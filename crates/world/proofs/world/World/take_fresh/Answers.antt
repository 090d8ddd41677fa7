use Rattle.std.proofs.Common.{refl}
use Rattle.world.specs.States.{state_of}
use Rattle.world.proofs.LineLaws.{taken_shown}
use Rattle.world.proofs.world.World.take_fresh.Goals as goal

pub returns : goal.returns
returns c = λ config taken w sh. taken_shown config taken w (state_of c.args.self.now) _ refl refl refl c.take_fresh.ensures sh
