use Rattle.std.proofs.Common.{sym, ◌∙◌}
use Rattle.sync_role_tests.proofs.Settling.{asked_open}
use Rattle.sync_role_tests.proofs.table_tests.settled.Goals as goal

pub settle-requires : goal.settle-requires
settle-requires c = asked_open _ (sym c.is_asked.ensures ∙ c.if-is_asked.true)
