use Rattle.disk_model.specs.ScriptDisk.{moment}
use Rattle.inode_pack.specs.Pack.{Stands}
use Rattle.disk_tests.proofs.table_tests.borders.Given as goal

abbrev pub invariant-loop-i : goal.invariant-loop-i
invariant-loop-i g l = Stands l.pack (moment l.disk)
