use Rattle.page_marks.proofs.Rising.{rising_pages}
use Rattle.page_marks.proofs.laying.laid_marks.Goals as goal

pub marks_of_numbers-marks-requires-clause-pages : goal.marks_of_numbers-marks-requires-clause-pages
marks_of_numbers-marks-requires-clause-pages c = rising_pages c.div_ceil-count.result c.args.came.now.numbers.now (c.are_rising.ensures.0 c.if-not-are_rising.false)
