use Rattle.std.proofs.Common.{◌≡◌, ◌<◌, drop, max}
use Rattle.commit_graph.specs.Counters.{counter, greatest}
use Rattle.audit_versions.proofs.versions.Versions.greatest.Given as goal

abbrev pub invariant-loop-stamp : goal.invariant-loop-stamp
invariant-loop-stamp l = record {
  value : greatest (λ p. counter l.self l.file p l.site) l.stamps ≡ max l.most (greatest (λ p. counter l.self l.file p l.site) (drop l.stamp-index l.stamps));
  room : l.most < 4294967295;
}
