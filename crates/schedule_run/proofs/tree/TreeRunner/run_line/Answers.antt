use Rattle.std.proofs.Common.{sym, ap, refl, subst, ◌∙◌, ◌++◌, ◌∷◌, Err, []}
use Rattle.the_run.specs.Commands.{tree_lines}
use Rattle.schedule_lines.specs.declared.line.Line.TheVariants as line
use Rattle.schedule_lines.specs.declared.line.ScheduleLine.TheVariants.{Event}
use Rattle.input_order_laws.proofs.Order.{first_in_order}
use Rattle.schedule_run.specs.Tree.{replies_taken}
use Rattle.schedule_run.proofs.Complete.{world_of}
use Rattle.schedule_run.proofs.Asking.{asked_order, asks_nothing, bad_is, call_next, may_ask, no_world_is}
use Rattle.schedule_run.proofs.tree.TreeRunner.run_line.Goals as goal

pub returns-in_err-call-clause-bad : goal.returns-in_err-call-clause-bad
returns-in_err-call-clause-bad c = λ calls taken h e asked asks.
    let f = bad_is c.in_err-call.field-0.0 c.from_residual.result c.from_residual.ensures.1 e in
    asks_nothing calls c.args.bytes.now taken c.args.self.now h (sym c.is_passed.ensures ∙ c.if-is_passed.false) (c.in_err-call.ensures.bad (ap Err f)) asked asks

pub returns-clause-ran : goal.returns-clause-ran
returns-clause-ran c = λ calls taken h.
    let d = c.in_ok-happen.ensures.done (tree_lines calls) (replies_taken taken) h.done in
    let f = c.in_ok-happen-2.ensures.done (tree_lines calls ++ Event c.in_ok-call.call ∷ []) (replies_taken taken) d in
    call_next calls c.args.bytes.now taken c.in_ok-call.call c.args.self.now _ h c.in_ok-call.ensures.found refl f

pub returns-in_err-call-clause-world : goal.returns-in_err-call-clause-world
returns-in_err-call-clause-world c = λ calls taken fault h e. absurd (no_world_is c.in_err-call.field-0.0 c.from_residual.result fault c.from_residual.ensures.1 e)

pub returns-in_err-happen-clause-world : goal.returns-in_err-happen-clause-world
returns-in_err-happen-clause-world c = λ calls taken fault h e. may_ask calls c.args.bytes.now taken c.in_ok-call.call c.args.self.now h c.in_ok-call.ensures.found

pub returns-in_err-happen-2-clause-world : goal.returns-in_err-happen-2-clause-world
returns-in_err-happen-2-clause-world c = λ calls taken fault h e. may_ask calls c.args.bytes.now taken c.in_ok-call.call c.args.self.now h c.in_ok-call.ensures.found

pub returns-in_err-call-clause-complete : goal.returns-in_err-call-clause-complete
returns-in_err-call-clause-complete c = λ calls taken fault on h e. absurd (no_world_is c.in_err-call.field-0.0 c.from_residual.result fault c.from_residual.ensures.1 e)

pub returns-in_err-happen-clause-complete : goal.returns-in_err-happen-clause-complete
returns-in_err-happen-clause-complete c = λ calls taken fault on h e.
    let f = world_of c.in_err-happen.field-0.0 fault c.from_residual-in_err-happen.result c.from_residual-in_err-happen.ensures.1 e in
    let o = asked_order calls c.args.bytes.now taken c.in_ok-call.call c.args.self.now h on c.in_ok-call.ensures.found in
    sym f ∙ c.in_err-happen.ensures.complete (tree_lines calls) (replies_taken taken) (first_in_order (tree_lines calls ++ Event c.in_ok-call.call ∷ []) (Event (line.Settle 100000) ∷ []) o) h.done

pub returns-in_err-happen-2-clause-complete : goal.returns-in_err-happen-2-clause-complete
returns-in_err-happen-2-clause-complete c = λ calls taken fault on h e.
    let f = world_of c.in_err-happen-2.field-0.0 fault c.from_residual-in_err-happen-2.result c.from_residual-in_err-happen-2.ensures.1 e in
    let o = asked_order calls c.args.bytes.now taken c.in_ok-call.call c.args.self.now h on c.in_ok-call.ensures.found in
    let d = c.in_ok-happen.ensures.done (tree_lines calls) (replies_taken taken) h.done in
    sym f ∙ c.in_err-happen-2.ensures.complete (tree_lines calls ++ Event c.in_ok-call.call ∷ []) (replies_taken taken) o d
