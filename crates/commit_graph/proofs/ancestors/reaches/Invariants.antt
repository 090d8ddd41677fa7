use Rattle.std.proofs.Common.{◌≡◌, take, length, ◌≤◌, reverse}
use Rattle.std.specs.List.{list_any}
use Rattle.commit_graph.specs.Versions.{is_ancestor}
use Rattle.commit_graph.proofs.ancestors.reaches.Given as goal

-- the answer is whether it is an ancestor of a wanted one by what is left
abbrev pub invariant-loop-left : goal.invariant-loop-left
invariant-loop-left l = record {
  bound : l.left ≤ length l.versions;
  rest : list_any (is_ancestor (reverse (take l.left l.versions)) l.file l.a) l.wanted.items ≡ list_any (is_ancestor (reverse l.versions) l.file l.a) l.fn.wanted.items;
}

abbrev pub decreases-loop-left : goal.decreases-loop-left
decreases-loop-left l = l.left
