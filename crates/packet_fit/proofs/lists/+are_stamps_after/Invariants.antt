use Rattle.std.proofs.Common.{length}
use Rattle.packet_fit.proofs.lists.+are_stamps_after.Given as goal

abbrev pub decreases-are_stamps_after : goal.decreases-are_stamps_after
decreases-are_stamps_after l = length l.stamps.now
