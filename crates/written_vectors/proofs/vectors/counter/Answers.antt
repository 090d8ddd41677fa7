use Rattle.std.proofs.Common.{List, ℕ, ◌∙◌, ap, reverse}
use Rattle.commit_graph.specs.declared.history.Version.{Version}
use Rattle.written_vectors.specs.Counting.{counter_in}
use Rattle.written_vectors.proofs.Counted.{counted}
use Rattle.written_vectors.proofs.vectors.counter.Goals as goal

pub returns : goal.returns
returns c =
    let h : List Version = reverse c.args.versions.now in
    c.counter_in.ensures ∙ ap (λ (ns : List ℕ). counter_in (reverse ns) h c.args.file c.args.stamp) c.as_slice.ensures
    ∙ ap (λ (ns : List ℕ). counter_in ns h c.args.file c.args.stamp) c.in_ok-counters.ensures.value
    ∙ counted c.args.file c.args.site h c.args.stamp
