use Rattle.new_contents.proofs.Marked.{past_end, is_mark, no_mark}
use Rattle.std.proofs.Common.{arith}
use Rattle.new_contents.proofs.marked_content.is_new_page.Goals as goal

pub returns-then-at-content-clause-changed : goal.returns-then-at-content-clause-changed
returns-then-at-content-clause-changed c = past_end c.args.content.now c.args.marks.now c.args.i c.from-at.result c.from-at.ensures c.if-at-content.true

pub returns-then-at-ge-CONTENT_PAGES-clause-changed : goal.returns-then-at-ge-CONTENT_PAGES-clause-changed
returns-then-at-ge-CONTENT_PAGES-clause-changed c = no_mark c.args.content.now c.args.marks.now c.args.i c.from-at.result c.from-at.ensures c.if-at-content.false (omega (arith, c.told-marks, c.if-at-ge-CONTENT_PAGES.true))

pub returns-clause-changed : goal.returns-clause-changed
returns-clause-changed c = is_mark c.args.content.now c.args.marks.now c.args.i c.from-at.result c.from-at.ensures c.if-at-content.false
