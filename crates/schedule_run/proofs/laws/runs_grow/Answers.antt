use Rattle.std.proofs.Common.{◌+◌, length, refl}
use Rattle.schedule_lines.specs.declared.line.ScheduleLine.TheVariants.{Event}
use Rattle.schedule_run.proofs.Growing.{config_more, run_more, run_quiet}
use Rattle.schedule_run.proofs.laws.runs_grow.Goals as goal

pub returns-clause-event : goal.returns-clause-event
returns-clause-event c = λ lines e. run_more lines (Event e) (length lines + 1) refl (config_more lines (Event e))

pub returns-clause-quiet : goal.returns-clause-quiet
returns-clause-quiet c = run_quiet
