use Rattle.std.proofs.Common.{sym, ◌∙◌}
use Rattle.dir_format.specs.Lookups.{is_meant}
use Rattle.dir_format.proofs.FirstOf.{still, found_at, found_nowhere}
use Rattle.dir_operations.proofs.finding.first_meant.Goals as goal

pub returns-then-is_meant : goal.returns-then-is_meant
returns-then-is_meant c = found_at (is_meant c.args.component.now) c.args.entries.now c.loop-entry.entry-index c.entry-item.result c.loop-entry-test.true c.entry-item.is (sym c.is_meant.ensures ∙ c.if-is_meant.true) c.loop-entry.invariant

pub loop-entry-preserved : goal.loop-entry-preserved
loop-entry-preserved c = still (is_meant c.args.component.now) c.args.entries.now c.loop-entry.entry-index c.entry-item.result c.loop-entry-test.true c.entry-item.is (sym c.is_meant.ensures ∙ c.if-is_meant.false) c.loop-entry.invariant

pub returns : goal.returns
returns c = found_nowhere (is_meant c.args.component.now) c.args.entries.now c.loop-entry.entry-index c.loop-entry-test.false c.loop-entry.invariant
