use Rattle.schedule_run.proofs.Events.{Does}
use Rattle.schedule_run.proofs.load.run_events.Given as goal

abbrev pub invariant-loop-lines : goal.invariant-loop-lines
invariant-loop-lines l = Does l.initial.load l.load l.initial.run l.run

abbrev pub decreases-loop-lines : goal.decreases-loop-lines
decreases-loop-lines l = l.load.left
