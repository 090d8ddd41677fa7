use Rattle.std.proofs.Common.{Err, ap}
use Rattle.the_run.specs.Commands.{load_lines}
use Rattle.run_book.specs.declared.writing.Writing.TheVariants.{Nothing}
use Rattle.generated_load.specs.Draws.{draws_of}
use Rattle.world.specs.Shown.{nothing_taken}
use Rattle.schedule_run.proofs.Complete.{same_fault}
use Rattle.schedule_run.proofs.load.run_load.Goals as goal

pub returns-clause-within : goal.returns-clause-within
returns-clause-within c = c.counts_of.ensures.within (load_lines (draws_of c.args.number c.args.events)) (nothing_taken Nothing) c.in_ok-run.ensures.done

pub returns-clause-text : goal.returns-clause-text
returns-clause-text c = c.counts_of.ensures.text (load_lines (draws_of c.args.number c.args.events)) (nothing_taken Nothing) c.in_ok-run.ensures.done

pub returns-clause-limit : goal.returns-clause-limit
returns-clause-limit c = λ limit e. c.counts_of.ensures.limit (load_lines (draws_of c.args.number c.args.events)) (nothing_taken Nothing) limit c.in_ok-run.ensures.done e

pub returns-in_err-run-clause-complete : goal.returns-in_err-run-clause-complete
returns-in_err-run-clause-complete c = λ fault e. c.in_err-run.ensures.complete fault (ap Err (same_fault c.in_err-run.field-0.0 _ c.from_residual.result c.from_residual.ensures.1 e))

pub returns-clause-complete : goal.returns-clause-complete
returns-clause-complete c = λ fault e. absurd (c.counts_of.ensures.complete fault e)
