use Rattle.std.proofs.Common.{◌≡◌, ◌&&◌, drop}
use Rattle.std.specs.List.{find}
use Rattle.dir_reconcile.specs.Rescues.{is_of, saw_something}
use Rattle.dir_reconcile.proofs.wanting.first_that_saw.Given as goal

abbrev pub invariant-loop-entry : goal.invariant-loop-entry
invariant-loop-entry l = find (λ d. is_of l.ino d && saw_something d) (drop l.entry-index l.entries) ≡ find (λ d. is_of l.ino d && saw_something d) l.entries
