use Rattle.std.proofs.Common.{◌≡◌, take, not, reverse}
use Rattle.std.specs.List.{filter}
use Rattle.commit_graph.specs.Versions.{is_covered}
use Rattle.commit_graph.proofs.ancestors.kept_of.Given as goal

-- those kept so far
abbrev pub invariant-loop-stamp : goal.invariant-loop-stamp
invariant-loop-stamp l = l.made ≡ filter (λ a. not (is_covered (reverse l.versions) l.file l.brought a)) (take l.stamp-index l.brought)
