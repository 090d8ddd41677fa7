use Rattle.std.proofs.Common.{◌<◌, ◌+◌, ◌∙◌, List, ap, sym, subst, length}
use Rattle.std.proofs.lemmas.List.{length-set}
use Rattle.commit_graph.specs.Counters.{counter}
use Rattle.commit_graph.specs.declared.history.Version.{Version}
use Rattle.written_vectors.proofs.Counted.{counters_more}
use Rattle.written_vectors.proofs.vectors.vector_of.Goals as goal

pub loop-place-preserved : goal.loop-place-preserved
loop-place-preserved c =
    let within : c.loop-place.place < length c.loop-place.parts = subst (λ n. c.loop-place.place < n) (sym c.loop-place.invariant.sites) c.loop-place-test.true in
    record {
      sites = length-set _ _ _ ∙ c.loop-place.invariant.sites;
      counters = counters_more (counter c.args.h.now c.args.file c.args.stamp) c.loop-place.parts c.loop-place.place c.in_ok-parts.field-0 within c.loop-place.invariant.counters
          (c.in_ok-parts.ensures ∙ ap (λ (h : List Version). counter h c.args.file c.args.stamp (c.loop-place.place + 1)) c.oldest_first.ensures);
    }
