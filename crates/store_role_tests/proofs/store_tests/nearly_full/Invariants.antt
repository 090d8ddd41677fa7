use Rattle.disk_model.specs.ScriptDisk.{moment}
use Rattle.site_packs.specs.Packs.{Stand}
use Rattle.store_role_tests.proofs.store_tests.nearly_full.Given as goal

abbrev pub invariant-loop-ino : goal.invariant-loop-ino
invariant-loop-ino g l = Stand l.storage.packs (moment l.storage.disk)
