use Rattle.std.proofs.Common.{sym, ◌∙◌}
use Rattle.dir_format.specs.Lookups.{has_name}
use Rattle.dir_format.proofs.FirstOf.{still, found_at, found_nowhere}
use Rattle.dir_operations.proofs.finding.first_of_name.Goals as goal

pub returns-then-has_name : goal.returns-then-has_name
returns-then-has_name c = found_at (has_name c.args.name.now) c.args.entries.now c.loop-entry.entry-index c.entry-item.result c.loop-entry-test.true c.entry-item.is (sym c.has_name.ensures ∙ c.if-has_name.true) c.loop-entry.invariant

pub loop-entry-preserved : goal.loop-entry-preserved
loop-entry-preserved c = still (has_name c.args.name.now) c.args.entries.now c.loop-entry.entry-index c.entry-item.result c.loop-entry-test.true c.entry-item.is (sym c.has_name.ensures ∙ c.if-has_name.false) c.loop-entry.invariant

pub returns : goal.returns
returns c = found_nowhere (has_name c.args.name.now) c.args.entries.now c.loop-entry.entry-index c.loop-entry-test.false c.loop-entry.invariant
