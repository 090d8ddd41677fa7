use Rattle.std.proofs.Common.{◌≡◌, drop}
use Rattle.tree_model.specs.Same.{same_all}
use Rattle.tree_tables.proofs.same.same_all.Given as goal

abbrev pub invariant-loop-i : goal.invariant-loop-i
invariant-loop-i l = same_all (drop l.i l.a) (drop l.i l.b) ≡ same_all l.a l.b
