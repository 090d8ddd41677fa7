use Rattle.std.proofs.Common.{◌≡◌, take, length}
use Rattle.std.specs.Prelude.{reverse}
use Rattle.written_vectors.specs.Counting.{counters_of}
use Rattle.written_vectors.proofs.vectors.counters_of.Given as goal

abbrev pub invariant-loop-place : goal.invariant-loop-place
invariant-loop-place l = record {
  value : reverse l.made ≡ counters_of l.file l.site (reverse (take l.place l.versions));
  long : length l.made ≡ l.place;
}
