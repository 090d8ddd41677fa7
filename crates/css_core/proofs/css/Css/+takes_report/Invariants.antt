use Rattle.std.proofs.Common.{length}
use Rattle.css_core.proofs.css.Css.+takes_report.Given as goal

abbrev pub decreases-takes_report : goal.decreases-takes_report
decreases-takes_report l = length l.copies.now
