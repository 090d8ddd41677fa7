use Rattle.std.proofs.Common.{sym, ◌∙◌}
use Rattle.dir_format.specs.Entries.{is_live}
use Rattle.dir_format.proofs.FirstOf.{still, found_at, found_nowhere}
use Rattle.dir_operations.proofs.finding.first_live.Goals as goal

pub returns-then-is_live : goal.returns-then-is_live
returns-then-is_live c = found_at (is_live) c.args.entries.now c.loop-entry.entry-index c.entry-item.result c.loop-entry-test.true c.entry-item.is (sym c.is_live.ensures ∙ c.if-is_live.true) c.loop-entry.invariant

pub loop-entry-preserved : goal.loop-entry-preserved
loop-entry-preserved c = still (is_live) c.args.entries.now c.loop-entry.entry-index c.entry-item.result c.loop-entry-test.true c.entry-item.is (sym c.is_live.ensures ∙ c.if-is_live.false) c.loop-entry.invariant

pub returns : goal.returns
returns c = found_nowhere (is_live) c.args.entries.now c.loop-entry.entry-index c.loop-entry-test.false c.loop-entry.invariant
