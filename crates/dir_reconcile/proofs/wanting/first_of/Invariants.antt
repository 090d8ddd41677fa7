use Rattle.std.proofs.Common.{◌≡◌, drop}
use Rattle.std.specs.List.{find}
use Rattle.dir_reconcile.specs.Rescues.{is_of}
use Rattle.dir_reconcile.proofs.wanting.first_of.Given as goal

abbrev pub invariant-loop-entry : goal.invariant-loop-entry
invariant-loop-entry l = find (is_of l.ino) (drop l.entry-index l.entries) ≡ find (is_of l.ino) l.entries
