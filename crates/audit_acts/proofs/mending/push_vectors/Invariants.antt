use Rattle.std.proofs.Common.{◌≡◌, ◌++◌, map, take}
use Rattle.commit_graph.specs.Vectors.{vector_of}
use Rattle.audit_acts.proofs.mending.push_vectors.Given as goal

abbrev pub invariant-loop-stamp : goal.invariant-loop-stamp
invariant-loop-stamp l = l.made ≡ l.initial.made ++ map (λ s. record { ino = l.ino; vector = vector_of l.h l.file s }) (take l.stamp-index l.kept)
