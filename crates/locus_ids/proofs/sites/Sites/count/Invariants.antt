use Rattle.std.proofs.Common.{◌≡◌, ◌-◌, ◌≤◌}
use Rattle.locus_ids.specs.Sites.{count_to}
use Rattle.locus_ids.proofs.sites.Sites.count.Given as goal

abbrev pub invariant-loop-site : goal.invariant-loop-site
invariant-loop-site l = record {
  number : l.n ≡ count_to l.self (l.site - 1);
  most : l.n ≤ l.site - 1;
}
