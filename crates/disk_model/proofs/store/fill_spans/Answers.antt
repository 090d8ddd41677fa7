use Rattle.std.proofs.Common.{◌+◌, ◌≤◌, ap, ◌∙◌, List, ℕ, arith, get_or, length, replicate}
use Rattle.std.proofs.lemmas.List.{get_or_default, length-replicate}
use Rattle.disk_model.proofs.Spans.{fill_more_spans, length-overwritten}
use Rattle.disk_model.proofs.store.fill_spans.Goals as goal

pub loop-span-preserved : goal.loop-span-preserved
loop-span-preserved c =
    let spans = c.args.spans.now in
    let i = c.loop-span.span-index in
    let span = get_or spans i (record { at = 0; len = 0 }) in
    let fits : span.at + span.len ≤ length c.loop-span.to = omega (arith, c.loop-span.invariant.0, c.requires.in_range i span c.loop-span-test.true) in
    let same = length-overwritten c.loop-span.to span.at (replicate span.len c.args.byte) (omega (arith, fits, length-replicate span.len c.args.byte)) in (
      ap (λ (l : List ℕ). length l) c.fill.ensures ∙ same ∙ c.loop-span.invariant.0,
      λ k. ap (λ (l : List ℕ). get_or l k 0) c.fill.ensures
          ∙ fill_more_spans c.args.to.now c.loop-span.to spans i c.args.byte span c.loop-span-test.true (get_or_default spans i _ _ c.loop-span-test.true) fits c.loop-span.invariant.1 k,
    )
