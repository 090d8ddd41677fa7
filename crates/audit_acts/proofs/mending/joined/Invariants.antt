use Rattle.std.proofs.Common.{◌≡◌, ◌≤◌, drop, length, map}
use Rattle.commit_graph.specs.Versions.{content_of}
use Rattle.dir_format.specs.Contents.{entries_of}
use Rattle.tree_model.specs.Mending.{joined_all}
use Rattle.audit_acts.proofs.mending.joined.Given as goal

-- the versions that are left are joined to what came so far
abbrev pub invariant-loop-left : goal.invariant-loop-left
invariant-loop-left l = record {
  few : l.left ≤ length l.kept;
  all : l.joined ≡ joined_all (map (λ s. entries_of (content_of l.h l.file s)) (drop l.left l.kept));
}

abbrev pub decreases-loop-left : goal.decreases-loop-left
decreases-loop-left l = l.left
