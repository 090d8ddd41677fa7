use Rattle.std.proofs.Common.{◌≡◌, ◌+◌, ◌-◌}
use Rattle.locus_ids.specs.Sizes.{site_inodes}
use Rattle.site_packs.specs.Packs.{free_ino}
use Rattle.site_packs.proofs.packs.SitePacks.least_free.Given as goal

abbrev pub invariant-loop-ino : goal.invariant-loop-ino
invariant-loop-ino l = free_ino l.self.packs l.group l.making l.ino (l.first + site_inodes - l.ino) ≡ free_ino l.self.packs l.group l.making l.first site_inodes
