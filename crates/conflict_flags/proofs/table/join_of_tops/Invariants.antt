use Rattle.std.proofs.Common.{◌≡◌, ◌≤◌, drop, length}
use Rattle.std.specs.List.{filter}
use Rattle.conflict_flags.specs.Written.{joined_all}
use Rattle.conflict_flags.specs.Copies.{is_maximal}
use Rattle.conflict_flags.proofs.table.join_of_tops.Given as goal

-- the join of what is done
abbrev pub invariant-loop-left : goal.invariant-loop-left
invariant-loop-left l = record {
  bound : l.left ≤ length l.all;
  done : l.joined ≡ joined_all (λ held. held.vector) (filter (is_maximal l.all) (drop l.left l.all));
}

abbrev pub decreases-loop-left : goal.decreases-loop-left
decreases-loop-left l = l.left
