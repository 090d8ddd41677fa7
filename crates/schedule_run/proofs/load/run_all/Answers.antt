use Rattle.std.proofs.Common.{Err, List, ◌++◌, refl, sym, ap, subst, ◌∙◌}
use Rattle.schedule_lines.specs.declared.line.ScheduleLine.{ScheduleLine}
use Rattle.the_run.specs.Commands.{opening_lines}
use Rattle.run_book.specs.declared.writing.Writing.TheVariants.{Nothing}
use Rattle.generated_load.specs.Pieces.{lines_left}
use Rattle.world.specs.Shown.{nothing_taken}
use Rattle.schedule_run.specs.Opened.{HasDone}
use Rattle.schedule_lines.specs.Schedule.{AreInOrder}
use Rattle.generated_load.specs.Draws.{draws_of}
use Rattle.generated_load.specs.Pieces.{events_of, first_left}
use Rattle.the_run.specs.Commands.{closing_lines}
use Rattle.input_order_laws.proofs.Loads.{generated_in_order}
use Rattle.input_order_laws.proofs.Order.{first_in_order}
use Rattle.schedule_run.proofs.Complete.{load_of, same_fault}
use Rattle.schedule_run.proofs.Events.{load_whole}
use Rattle.schedule_run.proofs.load.run_all.Goals as goal

pub returns-clause-done : goal.returns-clause-done
returns-clause-done c =
    let a = c.in_ok-run_events.ensures.done (opening_lines 20000) (nothing_taken Nothing) c.in_ok-run.ensures.done in
    let b = c.in_ok-happen_all.ensures.done (opening_lines 20000 ++ lines_left c.new-2.result) (nothing_taken Nothing) a in
    subst (λ (ls : List ScheduleLine). HasDone ls (nothing_taken Nothing) c.happen_all.new.self) (load_whole c.args.number c.args.events _ _ (ap lines_left c.new-2.ensures) c.in_ok-lines.ensures) b

pub returns-in_err-run-clause-complete : goal.returns-in_err-run-clause-complete
returns-in_err-run-clause-complete c = λ fault e.
    let f = load_of c.in_err-run.field-0.0 fault c.from_residual.result c.from_residual.ensures.1 e in
    sym f ∙ c.in_err-run.ensures.complete refl

pub returns-in_err-run_events-clause-complete : goal.returns-in_err-run_events-clause-complete
returns-in_err-run_events-clause-complete c = λ fault e.
    let f = same_fault c.in_err-run_events.field-0.0 _ c.from_residual-in_err-run_events.result c.from_residual-in_err-run_events.ensures.1 e in
    let o = subst AreInOrder (sym (load_whole c.args.number c.args.events (lines_left c.new-2.result) closing_lines (ap lines_left c.new-2.ensures) refl)) (generated_in_order c.args.number c.args.events) in
    c.in_err-run_events.ensures.complete (opening_lines 20000) (nothing_taken Nothing) fault (first_in_order (opening_lines 20000 ++ lines_left c.new-2.result) closing_lines o) c.in_ok-run.ensures.done (ap Err f)

pub returns-in_err-happen_all-clause-complete : goal.returns-in_err-happen_all-clause-complete
returns-in_err-happen_all-clause-complete c = λ fault e.
    let f = load_of c.in_err-happen_all.field-0.0 fault c.from_residual-in_err-happen_all.result c.from_residual-in_err-happen_all.ensures.1 e in
    let a = c.in_ok-run_events.ensures.done (opening_lines 20000) (nothing_taken Nothing) c.in_ok-run.ensures.done in
    let o = subst AreInOrder (sym (load_whole c.args.number c.args.events (lines_left c.new-2.result) (events_of c.in_ok-lines.lines.items) (ap lines_left c.new-2.ensures) c.in_ok-lines.ensures)) (generated_in_order c.args.number c.args.events) in
    sym f ∙ c.in_err-happen_all.ensures.complete (opening_lines 20000 ++ lines_left c.new-2.result) (nothing_taken Nothing) o a

pub returns-in_err-run_events-clause-goes_on : goal.returns-in_err-run_events-clause-goes_on
returns-in_err-run_events-clause-goes_on c = λ limit e.
    let f = same_fault c.in_err-run_events.field-0.0 _ c.from_residual-in_err-run_events.result c.from_residual-in_err-run_events.ensures.1 e in
    c.in_err-run_events.ensures.goes_on limit (ap Err f)
