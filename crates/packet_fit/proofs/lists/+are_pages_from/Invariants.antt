use Rattle.std.proofs.Common.{length}
use Rattle.packet_fit.proofs.lists.+are_pages_from.Given as goal

abbrev pub decreases-are_pages_from : goal.decreases-are_pages_from
decreases-are_pages_from l = length l.pages.now
