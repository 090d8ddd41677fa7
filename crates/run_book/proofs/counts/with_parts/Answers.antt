use Rattle.std.proofs.Common.{ap, ◌∙◌}
use Rattle.run_book.specs.Writings.{counts_after, counts_in}
use Rattle.run_book.proofs.Parts.{counts_more}
use Rattle.run_book.proofs.counts.with_parts.Goals as goal

pub loop-part-preserved : goal.loop-part-preserved
loop-part-preserved c = counts_more c.args.parts.now c.loop-part.part-index c.part-item.result (counts_in c.loop-part.made) _ _ c.loop-part-test.true c.part-item.is (c.in_ok-made.ensures ∙ ap (counts_after (counts_in c.loop-part.made)) c.records.ensures) c.loop-part.invariant
