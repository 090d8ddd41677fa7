use Rattle.std.proofs.Common.{◌++◌, ap, ◌∙◌}
use Rattle.run_book.specs.Writings.{replies_of}
use Rattle.run_book.proofs.Parts.{replies_more}
use Rattle.run_book.proofs.writing.add_all_replies.Goals as goal

pub loop-part-preserved : goal.loop-part-preserved
loop-part-preserved c = replies_more c.args.parts.now c.loop-part.part-index c.part-item.result c.loop-part.out _ _ c.loop-part-test.true c.part-item.is (c.in_ok-add_replies.ensures ∙ ap (λ rs. c.loop-part.out ++ replies_of rs) c.records.ensures) c.loop-part.invariant
