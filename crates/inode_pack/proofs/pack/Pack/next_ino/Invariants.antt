use Rattle.std.proofs.Common.{◌≡◌, ◌+◌, ◌-◌, ◌*◌, ◌<◌, ◌≤◌, ℕ, false}
use Rattle.locus_ids.specs.Sizes.{site_inodes}
use Rattle.inode_pack.specs.NextIno.{is_unused}
use Rattle.inode_pack.proofs.pack.Pack.next_ino.Given as goal

abbrev pub invariant-loop-n : goal.invariant-loop-n
invariant-loop-n l = (m : ℕ) → site_inodes * (l.self.site - 1) + 1 ≤ m → m < l.n → is_unused l.self l.held m ≡ false
