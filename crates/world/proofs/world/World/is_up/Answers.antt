use Rattle.world.specs.States.{state_of}
use Rattle.world.proofs.Asking.{up_answer}
use Rattle.world.proofs.world.World.is_up.Goals as goal

pub returns : goal.returns
returns c = up_answer (state_of c.args.self.now) c.args.from c.args.to c.boot_of-first.result c.boot_of-second.result c.is_cut-is_cut.result c.is_open.result c.boot_of-first.ensures c.boot_of-second.ensures c.is_cut-is_cut.ensures c.is_open.ensures
