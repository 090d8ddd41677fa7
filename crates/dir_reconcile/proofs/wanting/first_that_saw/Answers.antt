use Rattle.std.proofs.Common.{sym, ◌∙◌, ◌&&◌}
use Rattle.dir_format.proofs.FirstOf.{still, found_at, found_nowhere}
use Rattle.dir_reconcile.specs.Rescues.{is_of, saw_something}
use Rattle.dir_reconcile.proofs.wanting.first_that_saw.Goals as goal

pub returns-then-is_that_saw : goal.returns-then-is_that_saw
returns-then-is_that_saw c = found_at (λ d. is_of c.args.ino d && saw_something d) c.args.entries.now c.loop-entry.entry-index c.entry-item.result c.loop-entry-test.true c.entry-item.is (sym c.is_that_saw.ensures ∙ c.if-is_that_saw.true) c.loop-entry.invariant

pub loop-entry-preserved : goal.loop-entry-preserved
loop-entry-preserved c = still (λ d. is_of c.args.ino d && saw_something d) c.args.entries.now c.loop-entry.entry-index c.entry-item.result c.loop-entry-test.true c.entry-item.is (sym c.is_that_saw.ensures ∙ c.if-is_that_saw.false) c.loop-entry.invariant

pub returns : goal.returns
returns c = found_nowhere (λ d. is_of c.args.ino d && saw_something d) c.args.entries.now c.loop-entry.entry-index c.loop-entry-test.false c.loop-entry.invariant
