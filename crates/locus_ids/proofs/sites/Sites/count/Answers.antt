use Rattle.std.proofs.Common.{arith, ◌≡◌, ◌+◌}
use Rattle.locus_ids.specs.Sizes.{sites_max}
use Rattle.locus_ids.specs.Sites.{count}
use Rattle.locus_ids.proofs.sites.Sites.count.Goals as goal

pub returns-clause-number : goal.returns-clause-number
unfolding count
returns-clause-number c = let h : c.loop-site.site ≡ sites_max + 1 = omega arith in (rw h at c.loop-site.invariant.number)
