use Rattle.std.proofs.Common.{length}
use Rattle.packet_fit.proofs.lists.+are_copies_from.Given as goal

abbrev pub decreases-are_copies_from : goal.decreases-are_copies_from
decreases-are_copies_from l = length l.copies.now
