use Rattle.std.proofs.Common.{◌≡◌, take, length}
use Rattle.std.specs.Prelude.{map}
use Rattle.commit_graph.specs.Vectors.{numbers_from}
use Rattle.written_vectors.specs.Counting.{counter_on}
use Rattle.audit_versions.proofs.versions.Versions.counts_on.Given as goal

abbrev pub invariant-loop-place : goal.invariant-loop-place
invariant-loop-place l = record {
  sites : length l.parts ≡ 17;
  counters : take l.place l.parts ≡ map (λ site. counter_on l.self l.version.file site l.version) (numbers_from 0 l.place);
}
