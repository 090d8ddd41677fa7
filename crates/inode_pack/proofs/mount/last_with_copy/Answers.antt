use Rattle.std.proofs.Common.{◌≤◌, ◌<◌, ⊎_elim, arith}
use Rattle.std.specs.Prelude.{None}
use Rattle.std.proofs.lemmas.Bool.{cases_lt}
use Rattle.std.proofs.lemmas.List.{get_or_past}
use Rattle.locus_ids.specs.Sizes.{inodes_max}
use Rattle.inode_pack.proofs.mount.last_with_copy.Goals as goal

pub returns : goal.returns
returns c = record {
  most = let low = c.loop-i.invariant.most in omega arith;
  none = λ i le. ⊎_elim (λ (lt : i < inodes_max). c.loop-i.invariant.none i le (omega arith)) (λ (past : inodes_max ≤ i). get_or_past c.args.copies.now i None (omega arith)) (cases_lt i inodes_max);
}
