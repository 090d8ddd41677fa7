use Rattle.std.proofs.Common.{◌≡◌, drop}
use Rattle.audit_versions.specs.Keeping.{ascend, with_last}
use Rattle.audit_versions.proofs.stamps.ascend.Given as goal

abbrev pub invariant-loop-stamp : goal.invariant-loop-stamp
invariant-loop-stamp l = ascend l.stamps ≡ ascend (with_last l.last (drop l.stamp-index l.stamps))
