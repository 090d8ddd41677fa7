use Rattle.site_laws.proofs.Vectors.HistoryCovers.{run_held}
use Rattle.site_laws.proofs.history.commits_are_held.Goals as goal

pub returns : goal.returns
returns c = λ config lines agree once fit. run_held config lines agree once fit
