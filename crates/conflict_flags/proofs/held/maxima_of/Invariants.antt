use Rattle.std.proofs.Common.{◌≡◌, ◌≤◌, drop, length}
use Rattle.std.specs.List.{filter}
use Rattle.conflict_flags.specs.Copies.{is_maximal, by_stamp}
use Rattle.conflict_flags.proofs.held.maxima_of.Given as goal

-- those of the places that are done
abbrev pub invariant-loop-left : goal.invariant-loop-left
invariant-loop-left l = record {
  bound : l.left ≤ length l.all;
  done : l.made ≡ by_stamp (filter (is_maximal l.all) (drop l.left l.all));
}

abbrev pub decreases-loop-left : goal.decreases-loop-left
decreases-loop-left l = l.left
