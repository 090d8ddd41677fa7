use Rattle.line_text.proofs.OneReading.{one_line, one_schedule}
use Rattle.line_text.proofs.laws.lines_have_one_reading.Goals as goal

pub returns-clause-line : goal.returns-clause-line
returns-clause-line c = one_line

pub returns-clause-schedule : goal.returns-clause-schedule
returns-clause-schedule c = one_schedule
