use Rattle.std.proofs.Common.{sym, ◌∙◌}
use Rattle.world.proofs.world.World.counts.Goals as goal

pub returns : goal.returns
returns c = λ config taken w sh. c.counts.ensures ∙ sym sh.book.counts
