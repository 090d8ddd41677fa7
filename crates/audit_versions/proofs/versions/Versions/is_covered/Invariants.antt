use Rattle.std.proofs.Common.{◌≡◌, drop}
use Rattle.commit_graph.specs.Versions.{is_covered}
use Rattle.audit_versions.proofs.versions.Versions.is_covered.Given as goal

abbrev pub invariant-loop-stamp : goal.invariant-loop-stamp
invariant-loop-stamp l = is_covered l.self l.file l.brought l.a ≡ is_covered l.self l.file (drop l.stamp-index l.brought) l.a
