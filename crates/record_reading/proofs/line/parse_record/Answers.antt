use Rattle.std.proofs.Common.{sym, ◌∙◌}
use Rattle.record_reading.proofs.LineForms.{line_bad, line_read}
use Rattle.record_reading.proofs.line.parse_record.Goals as goal

pub returns-in-Some-clause-found : goal.returns-in-Some-clause-found
returns-in-Some-clause-found c = line_read c.args.line.now c.in-Some.read (sym c.in_ok-read.ensures ∙ c.in-Some.is)

pub returns-in-None-clause-bad : goal.returns-in-None-clause-bad
returns-in-None-clause-bad c = λ h n r is. line_bad c.args.line.now n r (sym c.in_ok-read.ensures ∙ c.in-None.is) is
