use Rattle.std.proofs.Common.{◌≡◌, take}
use Rattle.audit_acts.specs.Knowing.{vectors_removed}
use Rattle.audit_acts.proofs.mending.vectors_removed.Given as goal

abbrev pub invariant-loop-entry : goal.invariant-loop-entry
invariant-loop-entry l = l.made ≡ vectors_removed l.h l.known l.group (take l.entry-index l.entries)
