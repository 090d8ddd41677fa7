use Rattle.std.proofs.Common.{◌<◌, sym, subst, length, ◌∙◌}
use Rattle.std.proofs.lemmas.List.{length-set}
use Rattle.written_vectors.specs.Counting.{counter_on}
use Rattle.audit_versions.proofs.Beside.{counts_more}
use Rattle.audit_versions.proofs.versions.Versions.counts_on.Goals as goal

pub loop-place-preserved : goal.loop-place-preserved
loop-place-preserved c =
    let within : c.loop-place.place < length c.loop-place.parts = subst (λ n. c.loop-place.place < n) (sym c.loop-place.invariant.sites) c.loop-place-test.true in
    record {
      sites = length-set _ _ _ ∙ c.loop-place.invariant.sites;
      counters = counts_more (λ site. counter_on c.args.self.now c.args.version.now.file site c.args.version.now) c.loop-place.parts c.loop-place.place c.count_on.result within c.loop-place.invariant.counters c.count_on.ensures;
    }
