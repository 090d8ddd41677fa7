use Rattle.headline_laws.proofs.Whole.{run_lawful}
use Rattle.headline_laws.proofs.HeadlinePromises.AskedFor.{run_asked_for}
use Rattle.headline_laws.proofs.HeadlinePromises.Stopping.{run_asks_each, run_wrote}
use Rattle.headline_laws.proofs.lines.lines_ask_for_runs.Goals as goal

pub returns-clause-each : goal.returns-clause-each
returns-clause-each g lines order = (run_wrote lines order, run_asks_each lines order)

pub returns-clause-whole : goal.returns-clause-whole
returns-clause-whole g lines order none = run_asked_for lines order (run_lawful lines order none)
