use Rattle.std.proofs.Common.{length}
use Rattle.css_core.proofs.service.+whole_kept.Given as goal

abbrev pub decreases-whole_kept : goal.decreases-whole_kept
decreases-whole_kept l = length l.kept.now
