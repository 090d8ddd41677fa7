use Rattle.std.proofs.Common.{◌<◌, sym, subst, length, ◌∙◌}
use Rattle.std.proofs.lemmas.List.{length-set}
use Rattle.commit_graph.specs.Counters.{counter}
use Rattle.written_vectors.proofs.Counted.{counters_more}
use Rattle.audit_versions.proofs.versions.Versions.vector.Goals as goal

pub loop-place-preserved : goal.loop-place-preserved
loop-place-preserved c =
    let within : c.loop-place.place < length c.loop-place.parts = subst (λ n. c.loop-place.place < n) (sym c.loop-place.invariant.sites) c.loop-place-test.true in
    record {
      sites = length-set _ _ _ ∙ c.loop-place.invariant.sites;
      counters = counters_more (counter c.args.self.now c.args.file c.args.stamp) c.loop-place.parts c.loop-place.place c.counter.result within c.loop-place.invariant.counters c.counter.ensures.value;
    }
