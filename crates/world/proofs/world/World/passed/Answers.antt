use Rattle.std.proofs.Common.{◌∙◌}
use Rattle.world.proofs.world.World.passed.Goals as goal

pub returns : goal.returns
returns c = λ config taken w sh. c.passed.ensures ∙ sh.book.over
