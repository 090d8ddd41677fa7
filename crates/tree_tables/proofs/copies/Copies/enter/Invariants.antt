use Rattle.std.proofs.Common.{◌≡◌, ◌++◌, take, drop}
use Rattle.std.specs.Prelude.{map}
use Rattle.tree_model.specs.Tree.{entered}
use Rattle.tree_tables.proofs.copies.Copies.enter.Given as goal

abbrev pub invariant-loop-row : goal.invariant-loop-row
invariant-loop-row l = l.row-items ≡ map (entered l.site) (take l.row-index l.fn.self) ++ drop l.row-index l.fn.self
