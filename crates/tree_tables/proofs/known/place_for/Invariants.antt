use Rattle.std.proofs.Common.{◌≡◌, ◌++◌, take, drop}
use Rattle.tree_model.specs.State.{with_brought}
use Rattle.tree_tables.proofs.known.place_for.Given as goal

abbrev pub invariant-loop-i : goal.invariant-loop-i
invariant-loop-i l = take l.i l.known ++ with_brought l.copy (drop l.i l.known) ≡ with_brought l.copy l.known
