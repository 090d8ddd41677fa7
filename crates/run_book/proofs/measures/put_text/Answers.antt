use Rattle.std.proofs.Common.{◌++◌, ap, ◌∙◌}
use Rattle.run_book.specs.Ledgers.{lines_text}
use Rattle.run_book.proofs.Parts.{text_more}
use Rattle.run_book.proofs.measures.put_text.Goals as goal

pub loop-part-preserved : goal.loop-part-preserved
loop-part-preserved c = text_more c.args.line c.args.parts.now c.loop-part.part-index c.part-item.result c.loop-part.text _ _ c.loop-part-test.true c.part-item.is (c.in_ok-add_text.ensures ∙ ap (λ rs. c.loop-part.text ++ lines_text c.args.line rs) c.records.ensures) c.loop-part.invariant
