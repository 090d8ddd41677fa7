use Rattle.std.proofs.Common.{◌≡◌, take, map}
use Rattle.dir_reconcile.specs.Rescues.{entry_after_rescue}
use Rattle.dir_reconcile.proofs.rescuing.rescued.Given as goal

abbrev pub invariant-loop-entry : goal.invariant-loop-entry
invariant-loop-entry l = l.out.items ≡ map (entry_after_rescue l.entries l.kept) (take l.entry-index l.entries)
