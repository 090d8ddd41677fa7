use Rattle.std.proofs.Common.{length}
use Rattle.operation_effects.proofs.mends.+joined.Given as goal

abbrev pub decreases-joined : goal.decreases-joined
decreases-joined l = length l.contents.now
