use Rattle.std.proofs.Common.{◌≡◌, take, length}
use Rattle.std.specs.Prelude.{map}
use Rattle.locus_ids.specs.Sizes.{sites_max}
use Rattle.commit_graph.specs.Counters.{counter}
use Rattle.commit_graph.specs.Vectors.{numbers_from}
use Rattle.audit_versions.proofs.versions.Versions.vector.Given as goal

abbrev pub invariant-loop-place : goal.invariant-loop-place
invariant-loop-place l = record {
  sites : length l.parts ≡ sites_max;
  counters : take l.place l.parts ≡ map (counter l.self l.file l.stamp) (numbers_from 1 l.place);
}
