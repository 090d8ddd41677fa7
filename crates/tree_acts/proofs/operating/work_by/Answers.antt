use Rattle.std.proofs.Common.{◌≡◌, ◌∙◌, ap, sym, subst, Some, Option}
use Rattle.trace_book.specs.declared.operation.Outcome.{Outcome}
use Rattle.file_effects.specs.declared.work.Work.{Work}
use Rattle.role_steps.specs.OperationEffects.{effect_of}
use Rattle.operation_effects.specs.Settling.{worked, worked_so}
use Rattle.tree_acts.proofs.Operated.{given_so}
use Rattle.tree_acts.proofs.operating.work_by.Goals as goal

pub returns-clause-value : goal.returns-clause-value
returns-clause-value c =
    let effect = effect_of c.args.op.now c.args.seen.now c.args.mending.now c.args.work.now.content in
    let from_here : worked_so c.in_ok-gave.gave c.operate.new.work ≡ worked c.args.free c.args.work.now effect =
    subst (λ (w : Work). worked_so c.in_ok-gave.gave c.operate.new.work ≡ worked c.args.free w (effect_of c.args.op.now c.args.seen.now c.args.mending.now w.content)) c.in_ok-open.ensures.value c.in_ok-gave.ensures.value in
    let so : worked_so (Some c.in-Some.gave) c.operate.new.work ≡ worked c.args.free c.args.work.now effect =
    ap (λ (g : Option Outcome). worked_so g c.operate.new.work) (sym c.in-Some.is) ∙ from_here in
    ap (λ (w : Work). Some w) c.in_ok-work.ensures
    ∙ given_so c.args.free c.args.outcome.now c.in-Some.gave c.args.work.now c.operate.new.work effect so (sym c.same_outcome.ensures ∙ c.if-not-same_outcome.false)
