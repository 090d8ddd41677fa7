use Rattle.std.proofs.Common.{◌≡◌, take}
use Rattle.audit_epochs.proofs.changes.copies_of.Given as goal

abbrev pub invariant-loop-copy : goal.invariant-loop-copy
invariant-loop-copy l = l.made ≡ take l.copy-index l.held
