use Rattle.schedule_lines.specs.Cluster.{config_of}
use Rattle.the_run.specs.Runs.{run}
use Rattle.row_laws.specs.Shown.{trace_of}
use Rattle.headline_laws.proofs.Promises.VersionsNow.{versions_throughout}
use Rattle.headline_laws.proofs.HeadlinePromises.Comes.{run_comes_so, run_is_named}
use Rattle.headline_laws.proofs.HeadlinePromises.Kept.{kept}
use Rattle.headline_laws.proofs.headline_promise_laws.commits_are_kept.Goals as goal

pub returns : goal.returns
returns c lines order = kept (config_of lines) (run_is_named lines order) (trace_of (run lines)) (run_comes_so lines order) (versions_throughout lines order)
