use Rattle.std.proofs.Common.{refl}
use Rattle.sync_role_tests.proofs.Settling.{released_open}
use Rattle.sync_role_tests.proofs.table_tests.ended.Goals as goal

pub settle-requires : goal.settle-requires
settle-requires c = released_open _ _ _ c.closing.ensures c.in-Released.is refl
