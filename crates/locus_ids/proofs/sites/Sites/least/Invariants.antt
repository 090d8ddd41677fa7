use Rattle.std.proofs.Common.{ℕ, ◌≡◌, ◌≤◌, ◌<◌, false}
use Rattle.locus_ids.specs.Sites.{has}
use Rattle.locus_ids.proofs.sites.Sites.least.Given as goal

abbrev pub invariant-loop-site : goal.invariant-loop-site
invariant-loop-site l = (site : ℕ) → 1 ≤ site → site < l.site → has l.self site ≡ false
