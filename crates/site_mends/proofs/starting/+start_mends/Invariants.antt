use Rattle.std.proofs.Common.{length}
use Rattle.site_mends.proofs.starting.+start_mends.Given as goal

abbrev pub decreases-start_mends : goal.decreases-start_mends
decreases-start_mends g l = length l.tables.now
