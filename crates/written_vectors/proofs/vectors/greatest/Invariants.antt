use Rattle.std.proofs.Common.{◌≡◌, drop}
use Rattle.std.specs.Prelude.{max, reverse}
use Rattle.commit_graph.specs.Counters.{greatest}
use Rattle.written_vectors.specs.Counting.{counter_in}
use Rattle.written_vectors.proofs.vectors.greatest.Given as goal

abbrev pub invariant-loop-stamp : goal.invariant-loop-stamp
invariant-loop-stamp l = greatest (counter_in (reverse l.counters) (reverse l.older) l.file) l.stamps ≡ max l.most (greatest (counter_in (reverse l.counters) (reverse l.older) l.file) (drop l.stamp-index l.stamps))
