use Rattle.dir_format.proofs.Filtering.{passes_max}
use Rattle.dir_operations.proofs.size.is_too_long.Goals as goal

pub returns-then-size-gt-DIRECTORY_BYTES : goal.returns-then-size-gt-DIRECTORY_BYTES
returns-then-size-gt-DIRECTORY_BYTES c = passes_max c.args.entries.now c.loop-entry.entry-index c.entry-item.result c.loop-entry.size c.args.more c.loop-entry-test.true c.entry-item.is c.loop-entry.invariant.sum (rw c.entry_size-size.ensures.value at c.if-size-gt-DIRECTORY_BYTES.true)
