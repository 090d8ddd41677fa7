use Rattle.std.proofs.Common.{◌≡◌, ◌++◌, ◌-◌, drop, length, map}
use Rattle.past_laws.specs.of_promises.Past.{Copy}
use Rattle.audit_versions.specs.Keeping.{tops}
use Rattle.audit_copies.proofs.site_ends.tops_of.Given as goal

abbrev pub invariant-loop-at : goal.invariant-loop-at
invariant-loop-at l = l.made ++ tops (map (λ (v : Copy). v.stamp) (drop l.at l.rows)) ≡ tops (map (λ (v : Copy). v.stamp) l.rows)

abbrev pub decreases-loop-at : goal.decreases-loop-at
decreases-loop-at l = length l.initial.rows - l.at
