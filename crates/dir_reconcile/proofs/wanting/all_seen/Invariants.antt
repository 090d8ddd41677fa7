use Rattle.std.proofs.Common.{◌≡◌, drop}
use Rattle.dir_reconcile.specs.Rescues.{seen_from, all_seen}
use Rattle.dir_reconcile.proofs.wanting.all_seen.Given as goal

abbrev pub invariant-loop-entry : goal.invariant-loop-entry
invariant-loop-entry l = seen_from l.ino l.seen (drop l.entry-index l.entries) ≡ all_seen l.ino l.entries
