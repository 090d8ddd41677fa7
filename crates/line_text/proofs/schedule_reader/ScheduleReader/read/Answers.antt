use Rattle.std.proofs.Common.{◌≡◌, Ok, Err, ap, sym, ◌∙◌}
use Rattle.line_text.specs.declared.fault.LineFault.TheVariants.{Bad}
use Rattle.line_text.specs.declared.headers.HeaderStep.TheVariants.{NotHeader}
use Rattle.line_text.proofs.Answered.{same_fault}
use Rattle.line_text.proofs.ReaderSteps.{event_bad}
use Rattle.line_text.proofs.schedule_reader.ScheduleReader.read.Goals as goal

pub returns-in_err-line-in-NotHeader-clause-bad : goal.returns-in_err-line-in-NotHeader-clause-bad
returns-in_err-line-in-NotHeader-clause-bad c = λ earlier e h l reads.
    let step : c.header_step.result ≡ Ok NotHeader = c.in_ok-header_step.was ∙ ap Ok c.in-NotHeader.is in
    let fault : c.parse_line.result ≡ Err Bad = c.in_err-line-in-NotHeader.was
    ∙ ap Err (same_fault c.from_residual-in_err-line-in-NotHeader.result c.in_err-line-in-NotHeader.field-0.0 c.from_residual-in_err-line-in-NotHeader.ensures.1 h) in
    event_bad earlier c.args.line.now c.args.self.now c.header_step.new.self l e (c.header_step.ensures.stays step) (sym c.if-is_passed.ensures)
    (rw c.in-NotHeader.is at (c.in_ok-header_step.ensures.step earlier e))
    (λ v is. c.parse_line.ensures.bad fault v is)
    reads
