use Rattle.schedule_lines.specs.Cluster.{config_of}
use Rattle.the_run.specs.Runs.{run}
use Rattle.schedule_run.proofs.opened.OpenedRun.take_fresh.Goals as goal

pub returns : goal.returns
returns c = λ lines taken h. record { count = h.count; world = c.take_fresh.ensures (config_of lines) taken (run lines) h.world }
