use Rattle.std.proofs.Common.{Option, subst, sym}
use Rattle.the_run.specs.Runs.{run, printed}
use Rattle.schedule_run.specs.Standing.{StandsAs}
use Rattle.schedule_run.proofs.Lasting.{taken_stands, none_stands}
use Rattle.world.specs.declared.world.World.{World}
use Rattle.schedule_run.proofs.runner.ScheduleRunner.take_fresh.Goals as goal

pub returns-in-Some : goal.returns-in-Some
returns-in-Some c = λ lines taken h. record {
  reader = h.reader;
  world = taken_stands lines taken c.in-Some.world c.take_fresh.new.self (subst (λ (w : Option World). StandsAs lines taken w) c.in-Some.is h.world) c.take_fresh.ensures;
}

pub returns-in-None : goal.returns-in-None
returns-in-None c = λ lines taken h. record {
  reader = h.reader;
  world = subst (λ (w : Option World). StandsAs lines (printed (run lines)) w) (sym c.in-None.is) (none_stands lines taken (subst (λ (w : Option World). StandsAs lines taken w) c.in-None.is h.world));
}
