use Rattle.std.proofs.Common.{◌≡◌, drop}
use Rattle.conflict_flags.specs.Table.{run, start}
use Rattle.conflict_flags.proofs.events.play.Given as goal

-- the rest leads where all lead
abbrev pub invariant-loop-event : goal.invariant-loop-event
invariant-loop-event l = run (drop l.event-index l.events) l.table ≡ run l.events start
