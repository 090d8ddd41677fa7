use Rattle.std.proofs.Common.{length}
use Rattle.waiting_calls.proofs.descriptors.+last_opened.Given as goal

abbrev pub decreases-last_opened : goal.decreases-last_opened
decreases-last_opened l = length l.answers.now
