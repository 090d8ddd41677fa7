use Rattle.disk_model.specs.ScriptDisk.{moment}
use Rattle.inode_pack.specs.Pack.{Stands}
use Rattle.disk_tests.proofs.table_tests.first_other.Given as goal

abbrev pub invariant-loop-page : goal.invariant-loop-page
invariant-loop-page g l = Stands l.pack (moment l.disk)
