use Rattle.std.proofs.Common.{◌≡◌, drop}
use Rattle.commit_graph.specs.Versions.{same_stamp}
use Rattle.promises.specs.Same.{same_list}
use Rattle.audit_same.proofs.lists.same_stamps.Given as goal

abbrev pub invariant-loop-i : goal.invariant-loop-i
invariant-loop-i l = same_list same_stamp (drop l.i l.a) (drop l.i l.b) ≡ same_list same_stamp l.a l.b
