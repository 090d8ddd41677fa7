use Rattle.std.proofs.Common.{length}
use Rattle.instance_scripts.proofs.mending.+brings.Given as goal

abbrev pub decreases-brings : goal.decreases-brings
decreases-brings l = length l.kept.now
