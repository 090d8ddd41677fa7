use Rattle.std.proofs.Common.{◌≡◌, drop, ◌++◌}
use Rattle.audit_versions.specs.Keeping.{tops, with_last}
use Rattle.audit_versions.proofs.stamps.tops_of.Given as goal

abbrev pub invariant-loop-stamp : goal.invariant-loop-stamp
invariant-loop-stamp l = l.made ++ tops (with_last l.last (drop l.stamp-index l.stamps)) ≡ tops l.stamps
