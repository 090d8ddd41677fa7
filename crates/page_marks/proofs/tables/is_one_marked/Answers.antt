use Rattle.std.proofs.Common.{◌∙◌}
use Rattle.new_contents.specs.Marked.{is_marked}
use Rattle.page_marks.proofs.WrittenTables.{any_next}
use Rattle.page_marks.proofs.tables.is_one_marked.Goals as goal

pub loop-page-preserved : goal.loop-page-preserved
loop-page-preserved c = any_next (is_marked c.args.marks.now) c.loop-page.page c.args.stop c.loop-page-test.true c.if-marks-page.false ∙ c.loop-page.invariant
