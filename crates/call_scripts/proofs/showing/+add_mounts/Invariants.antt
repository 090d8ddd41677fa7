use Rattle.std.proofs.Common.{length}
use Rattle.call_scripts.proofs.showing.+add_mounts.Given as goal

abbrev pub decreases-add_mounts : goal.decreases-add_mounts
decreases-add_mounts l = length l.mounts.now
