use Rattle.std.proofs.Common.{◌≡◌, take, not}
use Rattle.std.specs.List.{filter}
use Rattle.commit_graph.specs.Versions.{is_covered}
use Rattle.audit_versions.proofs.versions.Versions.kept_of.Given as goal

abbrev pub invariant-loop-stamp : goal.invariant-loop-stamp
invariant-loop-stamp l = l.made ≡ filter (λ a. not (is_covered l.self l.file l.brought a)) (take l.stamp-index l.brought)
