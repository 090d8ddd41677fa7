use Rattle.std.proofs.Common.{◌≡◌, take, not}
use Rattle.std.specs.List.{filter}
use Rattle.commit_graph.specs.Versions.{is_proper_ancestor}
use Rattle.audit_versions.proofs.versions.Versions.beside.Given as goal

abbrev pub invariant-loop-stamp : goal.invariant-loop-stamp
invariant-loop-stamp l = l.made ≡ filter (λ k. not (is_proper_ancestor l.self l.file k l.new)) (take l.stamp-index l.kept)
