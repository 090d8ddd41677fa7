use Rattle.line_text.proofs.ReaderSteps.{step_read}
use Rattle.line_text.proofs.schedule_reader.ScheduleReader.header_step.Goals as goal

pub returns-clause-step : goal.returns-clause-step
returns-clause-step c = λ earlier e. step_read earlier c.args.line.now c.args.self.now c.parse_header.new.so_far c.parse_header.result e c.if-self.false c.parse_header.ensures.step
