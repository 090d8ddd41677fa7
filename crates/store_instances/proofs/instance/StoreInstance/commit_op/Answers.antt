use Rattle.std.proofs.Common.{List, ℕ, Option, None}
use Rattle.std.proofs.Common.{subst, sym, ◌∙◌}
use Rattle.locus_ids.specs.declared.refusal.Refusal.TheVariants as refusal
use Rattle.trace_book.specs.declared.operation.Op.TheVariants as op
use Rattle.trace_book.specs.declared.operation.Outcome.TheVariants as result
use Rattle.file_effects.specs.Works.{counted}
use Rattle.role_steps.specs.Views.{Store, Outcome}
use Rattle.store_instances.specs.Stores.{RowGives, store_of}
use Rattle.store_instances.proofs.Given.{acts_so, owing_op, spent_op}
use Rattle.role_steps.specs.Storage.{next_stamp}
use Rattle.store_instances.specs.Fitting.{CanCommit, CanStore}
use Rattle.store_instances.proofs.Fits.{memory_fit, unfit_at}
use Rattle.site_packs.specs.Packs.{groups_of}
use Rattle.site_packs.specs.Copies.{copies_on}
use Rattle.role_steps.specs.declared.copies.FileCopy.{FileCopy}
use Rattle.role_steps.specs.declared.copies.Step.{Step}
use Rattle.store_instances.proofs.instance.StoreInstance.commit_op.Goals as goal

pub returns-in_ok-act_counted-in-None-clause-gives : goal.returns-in_ok-act_counted-in-None-clause-gives
returns-in_ok-act_counted-in-None-clause-gives g c xs h =
    subst (λ (o : Outcome Store). RowGives o xs None c.act_counted.new.self c.args.packs.now (g.D.Disk.moment c.args.disk.now).seen c.args.out.now c.act_counted.new.out)
    (spent_op c.args.frame.now c.args.self.now (store_of xs c.args.packs.now (g.D.Disk.moment c.args.disk.now).seen) (sym c.owes.ensures ∙ c.if-not-owes.false) c.in-None.ensures.none)
    (acts_so xs c.args.packs.now (g.D.Disk.moment c.args.disk.now).seen c.args.frame.now c.args.self.now op.Commit (result.No refusal.Spent) (counted c.args.self.now.work) c.act_counted.new.self c.args.out.now c.act_counted.new.out
    c.in_ok-act_counted-in-None.ensures.row c.in_ok-act_counted-in-None.ensures.packets c.in_ok-act_counted-in-None.ensures.records)

pub returns-in_ok-made-in-Some-clause-gives : goal.returns-in_ok-made-in-Some-clause-gives
returns-in_ok-made-in-Some-clause-gives g c xs h =
    subst (λ (o : Outcome Store). RowGives o xs c.in_ok-made-in-Some.made c.commit_owed.new.self c.commit_owed.new.packs (g.D.Disk.moment c.commit_owed.new.disk).seen c.args.out.now c.commit_owed.new.out)
    (owing_op c.args.frame.now c.args.self.now (store_of xs c.args.packs.now (g.D.Disk.moment c.args.disk.now).seen) (sym c.owes.ensures ∙ c.if-not-owes.false) c.in-Some.ensures.risen)
    (c.in_ok-made-in-Some.ensures.gives xs c.in-Some.ensures.some)

pub returns-in_err-last_committed-clause-unfit : goal.returns-in_err-last_committed-clause-unfit
returns-in_err-last_committed-clause-unfit g c so can = memory_fit c.from_residual.result c.from_residual.ensures.1 so

pub returns-in_err-act_counted-in-None-clause-unfit : goal.returns-in_err-act_counted-in-None-clause-unfit
returns-in_err-act_counted-in-None-clause-unfit g c so can = memory_fit c.from_residual-in_err-act_counted-in-None.result c.from_residual-in_err-act_counted-in-None.ensures.1 so

pub returns-in_err-made-in-Some-clause-unfit : goal.returns-in_err-made-in-Some-clause-unfit
returns-in_err-made-in-Some-clause-unfit g c =
    let groups : List ℕ = groups_of c.args.packs.now in
    let copies : List FileCopy = copies_on groups (g.D.Disk.moment c.args.disk.now).seen in
    unfit_at {S = Option Step} (CanCommit c.args.frame.now groups copies c.args.self.now) c.from_residual-in_err-made-in-Some.result c.in_err-made-in-Some.field-0.0 c.from_residual-in_err-made-in-Some.ensures.1
    (λ so can. c.in_err-made-in-Some.ensures.unfit so
    (subst (λ v. CanStore groups copies c.args.self.now v (next_stamp c.args.frame.now v)) (sym c.in-Some.ensures.some) (can (sym c.owes.ensures ∙ c.if-not-owes.false) c.in-Some.ensures.risen)))
