use Rattle.std.proofs.Common.{◌≡◌, ◌≤◌, take, length}
use Rattle.std.specs.Prelude.{reverse}
use Rattle.commit_graph.specs.Versions.{content_of}
use Rattle.tree_steps.proofs.working.content_of.Given as goal

abbrev pub invariant-loop-left : goal.invariant-loop-left
invariant-loop-left l = record {
  within : l.left ≤ length l.versions;
  same : content_of (reverse l.versions) l.file l.stamp ≡ content_of (reverse (take l.left l.versions)) l.file l.stamp;
}

abbrev pub decreases-loop-left : goal.decreases-loop-left
decreases-loop-left l = l.left
