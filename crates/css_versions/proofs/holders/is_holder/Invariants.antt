use Rattle.std.proofs.Common.{◌≡◌, drop, filter, map}
use Rattle.role_steps.specs.of_commit_graph.Versions.{same_stamp}
use Rattle.role_steps.specs.Versions.{is_among, holding_site}
use Rattle.role_steps.specs.declared.synchronizing.Holding.{Holding}
use Rattle.css_versions.proofs.holders.is_holder.Given as goal

abbrev pub invariant-loop-holding : goal.invariant-loop-holding
invariant-loop-holding l =
    is_among l.site (map holding_site (filter (λ (h : Holding). same_stamp h.stamp l.stamp) (drop l.holding-index l.holdings)))
    ≡ is_among l.site (map holding_site (filter (λ (h : Holding). same_stamp h.stamp l.stamp) l.holdings))
