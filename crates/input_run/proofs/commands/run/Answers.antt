use Rattle.std.proofs.Common.{ap, inr}
use Rattle.std.proofs.lemmas.Bool.{false≢true}
use Rattle.input_run.specs.Codes.{ends_written}
use Rattle.input_run.specs.Inputs.Input.{Schedule}
use Rattle.input_run.proofs.Complete.{for_memory}
use Rattle.input_run.proofs.Openings.{schedule_opens}
use Rattle.input_run.proofs.Runs.{Nothing-front}
use Rattle.input_run.proofs.commands.run.Goals as goal

pub run_lines-requires-clause-opened : goal.run_lines-requires-clause-opened
run_lines-requires-clause-opened g c = schedule_opens c.new-runner.result c.new-runner.ensures

pub run_lines-requires-clause-unread : goal.run_lines-requires-clause-unread
run_lines-requires-clause-unread g c = c.in-Ok.ensures

pub returns-in-Ok-clause-promises : goal.returns-in-Ok-clause-promises
returns-in-Ok-clause-promises g c = c.run_lines.ensures.promises

pub returns-in-Ok-clause-words : goal.returns-in-Ok-clause-words
returns-in-Ok-clause-words g c = c.run_lines.ensures.words

pub returns-in-Ok-clause-flushed : goal.returns-in-Ok-clause-flushed
returns-in-Ok-clause-flushed g c = λ e. c.run_lines.ensures.held (ap ends_written e)

pub returns-in-Ok-clause-nothing_held : goal.returns-in-Ok-clause-nothing_held
returns-in-Ok-clause-nothing_held g c = λ e. inr (c.run_lines.ensures.held e)

pub returns-in-Ok-clause-read_fault : goal.returns-in-Ok-clause-read_fault
returns-in-Ok-clause-read_fault g c = c.run_lines.ensures.read_fault

pub returns-in-Ok-clause-write_fault : goal.returns-in-Ok-clause-write_fault
returns-in-Ok-clause-write_fault g c = c.run_lines.ensures.write_fault

pub returns-in-Err-clause-promises : goal.returns-in-Err-clause-promises
returns-in-Err-clause-promises g c = for_memory Schedule _ _ _ _ (Nothing-front Schedule _ _)

pub returns-in-Err-clause-words : goal.returns-in-Err-clause-words
returns-in-Err-clause-words g c = λ e. cc

pub returns-in-Err-clause-flushed : goal.returns-in-Err-clause-flushed
returns-in-Err-clause-flushed g c = λ e. absurd (cc)

pub returns-in-Err-clause-nothing_held : goal.returns-in-Err-clause-nothing_held
returns-in-Err-clause-nothing_held g c = λ e. absurd (false≢true e)

pub returns-in-Err-clause-read_fault : goal.returns-in-Err-clause-read_fault
returns-in-Err-clause-read_fault g c = λ e. absurd (cc)

pub returns-in-Err-clause-write_fault : goal.returns-in-Err-clause-write_fault
returns-in-Err-clause-write_fault g c = λ e. absurd (cc)
