use Rattle.std.proofs.Common.{◌≡◌, ◌++◌, drop, map, filter}
use Rattle.role_steps.specs.of_commit_graph.Versions.{same_stamp}
use Rattle.role_steps.specs.Versions.{holding_site}
use Rattle.role_steps.specs.declared.synchronizing.Holding.{Holding}
use Rattle.css_versions.proofs.holders.holders_among.Given as goal

abbrev pub invariant-loop-holding : goal.invariant-loop-holding
invariant-loop-holding l = l.made.items ++ map holding_site (filter (λ (h : Holding). same_stamp h.stamp l.stamp) (drop l.holding-index l.holdings)) ≡ map holding_site (filter (λ (h : Holding). same_stamp h.stamp l.stamp) l.holdings)
