use Rattle.std.proofs.Common.{sym, ◌∙◌}
use Rattle.dir_format.specs.Entries.{is_pair}
use Rattle.dir_format.proofs.FirstOf.{still, found_at, found_nowhere}
use Rattle.dir_operations.proofs.finding.pair_in.Goals as goal

pub returns-then-is_pair : goal.returns-then-is_pair
returns-then-is_pair c = found_at (is_pair c.args.name.now c.args.ino) c.args.entries.now c.loop-entry.entry-index c.entry-item.result c.loop-entry-test.true c.entry-item.is (sym c.is_pair.ensures ∙ c.if-is_pair.true) c.loop-entry.invariant

pub loop-entry-preserved : goal.loop-entry-preserved
loop-entry-preserved c = still (is_pair c.args.name.now c.args.ino) c.args.entries.now c.loop-entry.entry-index c.entry-item.result c.loop-entry-test.true c.entry-item.is (sym c.is_pair.ensures ∙ c.if-is_pair.false) c.loop-entry.invariant

pub returns : goal.returns
returns c = found_nowhere (is_pair c.args.name.now c.args.ino) c.args.entries.now c.loop-entry.entry-index c.loop-entry-test.false c.loop-entry.invariant
