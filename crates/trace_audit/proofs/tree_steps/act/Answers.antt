-- An operation that may come next is carried out, and told where it gives what is recorded.
use Rattle.std.proofs.Common.{◌≡◌, Option, true, false, refl, sym, subst, ◌∙◌}
use Rattle.trace_book.specs.declared.record.Record.TheVariants as rec
use Rattle.operation_effects.specs.Settling.{worked_so}
use Rattle.audit_tree.specs.Acting.{acted_on}
use Rattle.audit_rows.specs.Acts.{MayAct, MayActWith}
use Rattle.audit_rows.specs.declared.acting.Acting.{Acting}
use Rattle.trace_audit.proofs.Premises.{acts_once}
use Rattle.trace_audit.proofs.TreeSteps.{acted_so, judged_by, left_by, may_not, may_so, work_so}
use Rattle.trace_audit.proofs.tree_steps.act.Goals as goal

pub act_with-requires-clause-once : goal.act_with-requires-clause-once
act_with-requires-clause-once c = acts_once c.args.config.now c.args.told.now c.requires c.args.at.epoch c.args.at.instance c.args.at.n

pub returns-in_default : goal.returns-in_default
returns-in_default c =
    may_not _ _ _ (rec.Act c.args.at.epoch c.args.at.instance c.args.at.n c.args.op.now c.args.outcome.now)
    (sym (subst (λ (a : Option Acting). MayAct c.args.config.now c.args.told.now c.args.at.epoch c.args.at.instance c.args.at.n c.args.op.now a) c.in_default.is c.in_ok-with.ensures c.args.outcome.now))

pub returns-then-not-is_given : goal.returns-then-not-is_given
returns-then-not-is_given c =
    let it : MayActWith c.args.config.now c.args.told.now c.args.at.epoch c.args.at.instance c.args.at.n c.args.op.now c.in-Some.with =
    subst (λ (a : Option Acting). MayAct c.args.config.now c.args.told.now c.args.at.epoch c.args.at.instance c.args.at.n c.args.op.now a) c.in-Some.is c.in_ok-with.ensures in
    let done : worked_so c.in_ok-gave.gave c.act.new.work ≡ acted_on c.args.told.now it.stands.epoch c.args.op.now it.stands.instance =
    acted_so c.args.config.now c.args.told.now c.args.at.epoch c.args.at.instance c.args.at.n c.args.op.now c.in-Some.with it c.in-Some-2.work (worked_so c.in_ok-gave.gave c.act.new.work)
    (work_so c.args.config.now c.args.told.now c.args.at.epoch c.args.at.instance c.args.at.n c.args.op.now c.in-Some.with it c.in-Some-2.work (sym c.in-Some-2.is ∙ c.in_ok-work.ensures.work)) c.in_ok-gave.ensures in
    may_not _ _ _ (rec.Act c.args.at.epoch c.args.at.instance c.args.at.n c.args.op.now c.args.outcome.now)
    (judged_by c.args.config.now c.args.told.now c.args.at.epoch c.args.at.instance c.args.at.n c.args.op.now c.in-Some.with it c.in_ok-gave.gave c.act.new.work c.args.outcome.now false done c.if-not-is_given.ensures)

pub returns : goal.returns
returns c =
    let it : MayActWith c.args.config.now c.args.told.now c.args.at.epoch c.args.at.instance c.args.at.n c.args.op.now c.in-Some.with =
    subst (λ (a : Option Acting). MayAct c.args.config.now c.args.told.now c.args.at.epoch c.args.at.instance c.args.at.n c.args.op.now a) c.in-Some.is c.in_ok-with.ensures in
    let done : worked_so c.in_ok-gave.gave c.act.new.work ≡ acted_on c.args.told.now it.stands.epoch c.args.op.now it.stands.instance =
    acted_so c.args.config.now c.args.told.now c.args.at.epoch c.args.at.instance c.args.at.n c.args.op.now c.in-Some.with it c.in-Some-2.work (worked_so c.in_ok-gave.gave c.act.new.work)
    (work_so c.args.config.now c.args.told.now c.args.at.epoch c.args.at.instance c.args.at.n c.args.op.now c.in-Some.with it c.in-Some-2.work (sym c.in-Some-2.is ∙ c.in_ok-work.ensures.work)) c.in_ok-gave.ensures in
    may_so _ _ _ (rec.Act c.args.at.epoch c.args.at.instance c.args.at.n c.args.op.now c.args.outcome.now) refl
    (judged_by c.args.config.now c.args.told.now c.args.at.epoch c.args.at.instance c.args.at.n c.args.op.now c.in-Some.with it c.in_ok-gave.gave c.act.new.work c.args.outcome.now true done c.if-not-is_given.ensures)
    (c.in_ok-acted.ensures c.args.config.now c.args.told.now c.args.at.n it.stands c.in_ok-work.ensures.left it.step
    (left_by c.args.config.now c.args.told.now c.args.at.epoch c.args.at.instance c.args.at.n c.args.op.now c.in-Some.with it c.in_ok-gave.gave c.act.new.work c.args.outcome.now done c.if-not-is_given.ensures))
