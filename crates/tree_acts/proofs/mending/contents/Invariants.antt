use Rattle.std.proofs.Common.{◌≡◌, take}
use Rattle.std.specs.Prelude.{map}
use Rattle.commit_graph.specs.Versions.{content_of}
use Rattle.tree_acts.proofs.mending.contents.Given as goal

abbrev pub invariant-loop-stamp : goal.invariant-loop-stamp
invariant-loop-stamp l = l.made ≡ map (content_of l.h l.file) (take l.stamp-index l.stamps)
