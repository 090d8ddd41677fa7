use Rattle.std.proofs.Common.{◌≡◌, take}
use Rattle.audit_versions.proofs.stamps.copy_of.Given as goal

abbrev pub invariant-loop-stamp : goal.invariant-loop-stamp
invariant-loop-stamp l = l.made ≡ take l.stamp-index l.stamps
