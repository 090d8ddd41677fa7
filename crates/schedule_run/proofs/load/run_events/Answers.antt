use Rattle.std.proofs.Common.{sym, ◌++◌, ◌∙◌}
use Rattle.generated_load.specs.Pieces.{lines_left, moved, next_lines, events_of}
use Rattle.schedule_run.proofs.Complete.{load_of, next_order}
use Rattle.schedule_run.proofs.Events.{does_next, left_next, some_has}
use Rattle.schedule_run.proofs.load.run_events.Goals as goal

pub loop-lines-preserved : goal.loop-lines-preserved
loop-lines-preserved c =
    let t = some_has _ _ _ c.in-Some.is c.in_ok-lines.ensures.lines in
    does_next c.args.load c.loop-lines.load c.next.new.self c.in-Some.lines.items c.args.run.now c.loop-lines.run c.happen_all.new.self t.0 t.1 t.2 c.loop-lines.invariant c.in_ok-happen_all.ensures.done

pub returns-in_err-happen_all-clause-complete : goal.returns-in_err-happen_all-clause-complete
returns-in_err-happen_all-clause-complete c = λ lines taken fault o h e.
    let f = load_of c.in_err-happen_all.field-0.0 fault c.from_residual-in_err-happen_all.result c.from_residual-in_err-happen_all.ensures.1 e in
    let t = some_has _ _ _ c.in-Some.is c.in_ok-lines.ensures.lines in
    let b = c.loop-lines.invariant lines taken h in
    let l = c.loop-lines.load in
    let next = next_order lines b.0 (next_lines l) (lines_left (moved l)) (lines_left l) (lines_left c.args.load) (events_of c.in-Some.lines.items) b.1 (left_next l.event l.left l.generator t.0) t.1 o in
    sym f ∙ c.in_err-happen_all.ensures.complete (lines ++ b.0) taken next b.2
