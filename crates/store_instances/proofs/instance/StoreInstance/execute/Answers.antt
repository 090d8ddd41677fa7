use Rattle.std.proofs.Common.{◌≡◌, None, ap, subst, refl, ◌∙◌}
use Rattle.std.specs.Prelude.{Option}
use Rattle.trace_book.specs.declared.operation.Outcome.{Outcome}
use Rattle.file_effects.specs.declared.work.Work.{Work}
use Rattle.role_steps.specs.OperationEffects.{effect_of}
use Rattle.role_steps.specs.declared.instances.Instance.{Instance}
use Rattle.operation_effects.specs.Settling.{worked, worked_so}
use Rattle.store_instances.proofs.Given.{executes_none}
use Rattle.operation_effects.specs.Joinable.{CanWorkOn}
use Rattle.store_instances.proofs.Fits.{memory_fit, refused_effect}
use Rattle.store_instances.proofs.instance.StoreInstance.execute.Goals as goal

pub returns-in-None-clause-gives : goal.returns-in-None-clause-gives
returns-in-None-clause-gives c xs p image h room =
    let left : Instance = record { inst = record { us = c.self.inside.us; serial = c.self.inside.serial }; file = c.self.inside.file; mode = c.self.inside.mode; set = c.self.inside.set; kind = c.self.inside.kind; vector = c.self.inside.vector; parents = c.self.inside.parents; size = c.self.inside.size; work = c.operate.new.work; answered = c.self.inside.answered; stage = c.self.inside.stage } in
    let before : c.self.inside.work ≡ c.args.self.now.work = ap (λ (j : Instance). j.work) c.self.view_is in
    let nothing : worked_so None c.operate.new.work ≡ worked c.args.free c.args.self.now.work (effect_of c.args.op.now c.args.seen.now c.args.mending.now c.args.self.now.work.content) =
    subst (λ (r : Option Outcome). worked_so r c.operate.new.work ≡ worked c.args.free c.args.self.now.work (effect_of c.args.op.now c.args.seen.now c.args.mending.now c.args.self.now.work.content)) c.in-None.is
    (c.in_ok-operate.ensures.value ∙ ap (λ (w : Work). worked c.args.free w (effect_of c.args.op.now c.args.seen.now c.args.mending.now w.content)) before) in
    executes_none xs p image c.args.frame.now c.args.self.now c.args.op.now (effect_of c.args.op.now c.args.seen.now c.args.mending.now c.args.self.now.work.content) c.args.free c.operate.new.work left c.args.out.now c.args.out.now nothing h
    (ap (λ (j : Instance). record j { work = c.operate.new.work }) c.self.view_is) refl

pub returns-in_err-operate-clause-unfit : goal.returns-in_err-operate-clause-unfit
returns-in_err-operate-clause-unfit c = refused_effect (CanWorkOn c.args.op.now c.args.mending.now.contents) c.in_err-operate.field-0.0 c.from_residual.result c.from_residual.ensures.1 c.in_err-operate.ensures.fit

pub returns-in_err-act-in-Some-clause-unfit : goal.returns-in_err-act-in-Some-clause-unfit
returns-in_err-act-in-Some-clause-unfit c so can = memory_fit c.from_residual-in_err-act-in-Some.result c.from_residual-in_err-act-in-Some.ensures.1 so
