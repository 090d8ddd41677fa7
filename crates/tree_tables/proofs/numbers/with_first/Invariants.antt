use Rattle.std.proofs.Common.{◌≡◌, ◌∷◌, take}
use Rattle.tree_model.specs.Tree.{without_number}
use Rattle.tree_tables.proofs.numbers.with_first.Given as goal

abbrev pub invariant-loop-other : goal.invariant-loop-other
invariant-loop-other l = l.made ≡ l.number ∷ without_number l.number (take l.other-index l.numbers)
