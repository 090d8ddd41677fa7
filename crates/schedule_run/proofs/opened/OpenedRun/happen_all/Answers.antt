use Rattle.std.proofs.Common.{◌≡◌, List, ◌++◌, sym, ap, subst, ◌∙◌, length}
use Rattle.schedule_lines.specs.declared.line.Line.{Line}
use Rattle.generated_load.specs.Pieces.{events_of}
use Rattle.world.specs.declared.fault.WorldFault.TheVariants.{NoMemory}
use Rattle.world.proofs.Wanting.{given_on}
use Rattle.schedule_run.proofs.Complete.{events_order}
use Rattle.schedule_run.proofs.Doing.{Does, does_none, does_more, items_next, items_end}
use Rattle.schedule_run.proofs.opened.OpenedRun.happen_all.Goals as goal

pub loop-line-init : goal.loop-line-init
loop-line-init c =
    let g = c.into_iter-line-iterator.ensures.into_iter_gives in
    record { done = does_none c.args.self.now; rest = g.0; size = g.1 ∙ (c.args.next.ok.0 ∙ ap length (sym g.0)) }

pub loop-line-preserved : goal.loop-line-preserved
loop-line-preserved c =
    let t = items_next c.args.next.items c.loop-line.yielded _ _ c.in-Some.line _ _ c.loop-line.invariant.rest c.loop-line.invariant.size c.in-Some.ensures.steps in
    record {
      done = does_more c.loop-line.yielded c.in-Some.line c.args.self.now c.loop-line.self c.happen.new.self c.loop-line.invariant.done c.in_ok-happen.ensures.done;
      rest = t.0;
      size = t.1;
    }

pub returns-clause-done : goal.returns-clause-done
returns-clause-done c =
    let e : c.loop-line.yielded ≡ c.args.next.items = items_end c.args.next.items c.loop-line.yielded _ _ c.loop-line.invariant.rest c.loop-line.invariant.size c.in-None.ensures.steps.0 in
    subst (λ (es : List Line). Does es c.args.self.now c.loop-line.self) e c.loop-line.invariant.done

pub returns-in_err-happen-clause-complete : goal.returns-in_err-happen-clause-complete
returns-in_err-happen-clause-complete c = λ lines taken o h.
    let t = items_next c.args.next.items c.loop-line.yielded _ _ c.in-Some.line _ _ c.loop-line.invariant.rest c.loop-line.invariant.size c.in-Some.ensures.steps in
    given_on (λ fault. fault ≡ NoMemory) c.from_residual.result c.in_err-happen.field-0.0 c.from_residual.ensures
    (c.in_err-happen.ensures.complete (lines ++ events_of c.loop-line.yielded) taken (events_order lines c.loop-line.yielded _ c.args.next.items c.in-Some.line t.0 o) (c.loop-line.invariant.done lines taken h))
