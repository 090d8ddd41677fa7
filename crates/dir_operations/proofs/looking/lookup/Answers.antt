use Rattle.std.proofs.Common.{◌∙◌}
use Rattle.dir_format.specs.Lookups.{is_meant}
use Rattle.dir_format.proofs.Filtering.{look_more}
use Rattle.dir_operations.proofs.looking.lookup.Goals as goal

pub loop-entry-preserved : goal.loop-entry-preserved
loop-entry-preserved c = record {
  items = c.loop-entry.invariant.items;
  found = rw c.loop-entry.invariant.found at c.and_maybe-so_far.ensures ∙ look_more (is_meant c.args.component.now) _ c.loop-entry.entry-index c.entry-item.result c.loop-entry-test.true c.entry-item.is;
}
