use Rattle.std.proofs.Common.{length}
use Rattle.waiting_calls.proofs.descriptors.+last_version.Given as goal

abbrev pub decreases-last_version : goal.decreases-last_version
decreases-last_version l = length l.answers.now
