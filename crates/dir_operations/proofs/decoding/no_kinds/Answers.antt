use Rattle.std.specs.Prelude.{◌+◌}
use Rattle.locus_ids.specs.Sizes.{inodes_max}
use Rattle.dir_operations.proofs.KindTable.{knows_nothing}
use Rattle.dir_operations.proofs.decoding.no_kinds.Goals as goal

pub returns-clause-known : goal.returns-clause-known
returns-clause-known c = knows_nothing (inodes_max + 1)
