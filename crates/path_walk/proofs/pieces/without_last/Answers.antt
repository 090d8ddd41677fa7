use Rattle.path_walk.proofs.Ends.{take_front}
use Rattle.path_walk.proofs.pieces.without_last.Goals as goal

pub returns-in-len1-up : goal.returns-in-len1-up
returns-in-len1-up c = take_front c.args.names.now
