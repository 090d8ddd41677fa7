use Rattle.std.proofs.Common.{◌≡◌, ◌≤◌, drop, length}
use Rattle.std.specs.List.{filter}
use Rattle.conflict_flags.specs.Copies.{is_maximal, by_stamp, stamps_of, least_of}
use Rattle.conflict_flags.proofs.held.least_maxima.Given as goal

-- what those of the places that are done begin with
abbrev pub invariant-loop-left : goal.invariant-loop-left
invariant-loop-left l = record {
  bound : l.left ≤ length l.all;
  done : l.least ≡ least_of (stamps_of (by_stamp (filter (is_maximal l.all) (drop l.left l.all))));
}

abbrev pub decreases-loop-left : goal.decreases-loop-left
decreases-loop-left l = l.left
