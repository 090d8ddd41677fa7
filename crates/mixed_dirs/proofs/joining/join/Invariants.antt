use Rattle.std.proofs.Common.{◌≡◌, ◌≤◌, ◌+◌, ◌-◌, ◌++◌, drop, length}
use Rattle.dir_reconcile.specs.Joins.{joined_dirs}
use Rattle.mixed_dirs.proofs.joining.join.Given as goal

-- what came so far and the join of what is left is the join of all
abbrev pub invariant-loop-order : goal.invariant-loop-order
invariant-loop-order l = record {
  all : l.out.items ++ joined_dirs (drop l.i l.xs) (drop l.j l.ys) ≡ joined_dirs l.xs l.ys;
  first : l.i ≤ length l.xs;
  second : l.j ≤ length l.ys;
}

abbrev pub decreases-loop-order : goal.decreases-loop-order
decreases-loop-order l = (length l.xs - l.i) + (length l.ys - l.j)
