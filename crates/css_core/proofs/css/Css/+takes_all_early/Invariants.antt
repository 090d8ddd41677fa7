use Rattle.std.proofs.Common.{length}
use Rattle.css_core.proofs.css.Css.+takes_all_early.Given as goal

abbrev pub decreases-takes_all_early : goal.decreases-takes_all_early
decreases-takes_all_early l = length l.early.now
