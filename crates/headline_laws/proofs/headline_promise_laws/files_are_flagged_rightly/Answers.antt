use Rattle.headline_laws.proofs.HeadlinePromises.Flagged.{run_flags_rightly}
use Rattle.headline_laws.proofs.headline_promise_laws.files_are_flagged_rightly.Goals as goal

pub returns : goal.returns
returns c lines order = run_flags_rightly lines order
