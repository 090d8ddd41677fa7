use Rattle.std.proofs.Common.{Option, subst}
use Rattle.schedule_lines.specs.Cluster.{config_of}
use Rattle.the_run.specs.Runs.{run}
use Rattle.schedule_run.specs.Standing.{text_taken, StandsAs}
use Rattle.schedule_run.proofs.Lasting.{none_over}
use Rattle.world.specs.declared.world.World.{World}
use Rattle.schedule_run.proofs.runner.ScheduleRunner.passed.Goals as goal

pub returns-in-Some : goal.returns-in-Some
returns-in-Some c = λ lines taken h. c.passed.ensures (config_of lines) (text_taken taken) (run lines) (subst (λ (w : Option World). StandsAs lines taken w) c.in-Some.is h.world).1

pub returns-in-None : goal.returns-in-None
returns-in-None c = λ lines taken h. none_over lines (subst (λ (w : Option World). StandsAs lines taken w) c.in-None.is h.world).0
