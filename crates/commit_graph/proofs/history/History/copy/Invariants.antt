use Rattle.std.proofs.Common.{◌≡◌, take, reverse}
use Rattle.commit_graph.proofs.history.History.copy.Given as goal

-- those copied so far
abbrev pub invariant-loop-version : goal.invariant-loop-version
invariant-loop-version l = l.made ≡ reverse (take l.version-index l.versions)
