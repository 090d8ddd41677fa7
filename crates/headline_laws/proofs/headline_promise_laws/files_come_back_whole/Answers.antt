use Rattle.schedule_lines.specs.Cluster.{config_of}
use Rattle.the_run.specs.Runs.{run}
use Rattle.row_laws.specs.Shown.{trace_of}
use Rattle.headline_laws.proofs.HeadlinePromises.Comes.{run_comes_so, run_is_named}
use Rattle.headline_laws.proofs.HeadlinePromises.Served.{served_whole}
use Rattle.headline_laws.proofs.HeadlinePromises.Whole as files
use Rattle.headline_laws.proofs.headline_promise_laws.files_come_back_whole.Goals as goal

pub returns-clause-whole : goal.returns-clause-whole
returns-clause-whole c lines order = files.whole (config_of lines) (run_is_named lines order) (trace_of (run lines)) (run_comes_so lines order)

pub returns-clause-served : goal.returns-clause-served
returns-clause-served c lines order = served_whole (config_of lines) (run_is_named lines order) (trace_of (run lines)) (run_comes_so lines order)
