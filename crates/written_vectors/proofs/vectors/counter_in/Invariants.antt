use Rattle.std.proofs.Common.{◌≡◌, ◌≤◌, take, length}
use Rattle.std.specs.Prelude.{reverse}
use Rattle.written_vectors.specs.Counting.{counter_in}
use Rattle.written_vectors.proofs.vectors.counter_in.Given as goal

abbrev pub invariant-loop-left : goal.invariant-loop-left
invariant-loop-left l = record {
  within : l.left ≤ length l.versions;
  same : counter_in (reverse l.counters) (reverse l.versions) l.file l.stamp ≡ counter_in (reverse (take l.left l.counters)) (reverse (take l.left l.versions)) l.file l.stamp;
}

abbrev pub decreases-loop-left : goal.decreases-loop-left
decreases-loop-left l = l.left
