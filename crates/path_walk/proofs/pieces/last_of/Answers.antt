use Rattle.std.proofs.Common.{◌∙◌, arith}
use Rattle.path_walk.proofs.Ends.{last_at}
use Rattle.path_walk.proofs.pieces.last_of.Goals as goal

pub returns-in-len1-up : goal.returns-in-len1-up
returns-in-len1-up c = c.as_slice.ensures ∙ (c.last-item.is ∙ last_at c.args.names.now c.last-item.result (omega arith))
