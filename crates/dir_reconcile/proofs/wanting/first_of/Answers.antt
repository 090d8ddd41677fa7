use Rattle.std.proofs.Common.{sym, ◌∙◌}
use Rattle.dir_format.proofs.FirstOf.{still, found_at, found_nowhere}
use Rattle.dir_reconcile.specs.Rescues.{is_of}
use Rattle.dir_reconcile.proofs.wanting.first_of.Goals as goal

pub returns-then-is_of : goal.returns-then-is_of
returns-then-is_of c = found_at (is_of c.args.ino) c.args.entries.now c.loop-entry.entry-index c.entry-item.result c.loop-entry-test.true c.entry-item.is (sym c.is_of.ensures ∙ c.if-is_of.true) c.loop-entry.invariant

pub loop-entry-preserved : goal.loop-entry-preserved
loop-entry-preserved c = still (is_of c.args.ino) c.args.entries.now c.loop-entry.entry-index c.entry-item.result c.loop-entry-test.true c.entry-item.is (sym c.is_of.ensures ∙ c.if-is_of.false) c.loop-entry.invariant

pub returns : goal.returns
returns c = found_nowhere (is_of c.args.ino) c.args.entries.now c.loop-entry.entry-index c.loop-entry-test.false c.loop-entry.invariant
