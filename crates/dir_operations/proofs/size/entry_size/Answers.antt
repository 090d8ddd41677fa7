use Rattle.std.proofs.Common.{sym, ◌∙◌}
use Rattle.dir_format.proofs.Filtering.{live_long, removed_long}
use Rattle.dir_operations.proofs.size.entry_size.Goals as goal

pub returns-then-is_live-clause-value : goal.returns-then-is_live-clause-value
returns-then-is_live-clause-value c = rw c.len-head.ensures (live_long c.args.entry.now c.requires (sym c.is_live.ensures ∙ c.if-is_live.true))

pub returns-else-is_live-clause-value : goal.returns-else-is_live-clause-value
returns-else-is_live-clause-value c = rw c.len-head.ensures (removed_long c.args.entry.now c.requires (sym c.is_live.ensures ∙ c.if-is_live.false))
