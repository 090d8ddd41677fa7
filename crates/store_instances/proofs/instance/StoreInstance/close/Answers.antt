use Rattle.std.proofs.Common.{List, ℕ, Option, None}
use Rattle.std.proofs.Common.{Ok, subst, sym, ◌∙◌}
use Rattle.locus_ids.specs.declared.refusal.Refusal.TheVariants as refusal
use Rattle.wire_messages.specs.declared.body.CloseAnswer.TheVariants as closing
use Rattle.role_steps.specs.Views.{Store, Outcome}
use Rattle.store_instances.specs.Stores.{RowGives, store_of}
use Rattle.store_instances.specs.Writes.{Writes}
use Rattle.store_instances.proofs.Stays.{nothing_failed, nothing_written}
use Rattle.store_instances.proofs.Given.{idle_close, owing_close, shut_so, spent_close}
use Rattle.role_steps.specs.Storage.{next_stamp}
use Rattle.store_instances.specs.Fitting.{CanCommit, CanStore}
use Rattle.store_instances.proofs.Fits.{memory_fit, unfit_at}
use Rattle.site_packs.specs.Packs.{groups_of}
use Rattle.site_packs.specs.Copies.{copies_on}
use Rattle.role_steps.specs.declared.copies.FileCopy.{FileCopy}
use Rattle.role_steps.specs.declared.copies.Step.{Step}
use Rattle.store_instances.proofs.instance.StoreInstance.close.Goals as goal

pub returns-then-not-owes-clause-gives : goal.returns-then-not-owes-clause-gives
returns-then-not-owes-clause-gives g c xs h =
    subst (λ (o : Outcome Store). RowGives o xs None c.shut.new.self c.args.packs.now (g.D.Disk.moment c.args.disk.now).seen c.args.out.now c.shut.new.out)
    (idle_close c.args.frame.now c.args.self.now (store_of xs c.args.packs.now (g.D.Disk.moment c.args.disk.now).seen) (sym c.owes.ensures ∙ c.if-not-owes.true))
    (shut_so c.args.frame.now c.args.self.now closing.Nothing xs c.args.packs.now (g.D.Disk.moment c.args.disk.now).seen c.shut.new.self c.args.out.now c.shut.new.out
    (c.in_ok-shut.ensures.row (g.D.Disk.moment c.args.disk.now).seen c.requires.shown) (c.in_ok-shut.ensures.packets (g.D.Disk.moment c.args.disk.now).seen c.requires.shown) c.in_ok-shut.ensures.records)

pub returns-in_ok-shut-in-None-clause-gives : goal.returns-in_ok-shut-in-None-clause-gives
returns-in_ok-shut-in-None-clause-gives g c xs h =
    subst (λ (o : Outcome Store). RowGives o xs None c.shut-in-None.new.self c.args.packs.now (g.D.Disk.moment c.args.disk.now).seen c.args.out.now c.shut-in-None.new.out)
    (spent_close c.args.frame.now c.args.self.now (store_of xs c.args.packs.now (g.D.Disk.moment c.args.disk.now).seen) (sym c.owes.ensures ∙ c.if-not-owes.false) c.in-None.ensures.none)
    (shut_so c.args.frame.now c.args.self.now (closing.No refusal.Spent) xs c.args.packs.now (g.D.Disk.moment c.args.disk.now).seen c.shut-in-None.new.self c.args.out.now c.shut-in-None.new.out
    (c.in_ok-shut-in-None.ensures.row (g.D.Disk.moment c.args.disk.now).seen c.requires.shown) (c.in_ok-shut-in-None.ensures.packets (g.D.Disk.moment c.args.disk.now).seen c.requires.shown) c.in_ok-shut-in-None.ensures.records)

pub returns-in_ok-made-in-Some-clause-gives : goal.returns-in_ok-made-in-Some-clause-gives
returns-in_ok-made-in-Some-clause-gives g c xs h =
    subst (λ (o : Outcome Store). RowGives o xs c.in_ok-made-in-Some.made c.close_owed.new.self c.close_owed.new.packs (g.D.Disk.moment c.close_owed.new.disk).seen c.args.out.now c.close_owed.new.out)
    (owing_close c.args.frame.now c.args.self.now (store_of xs c.args.packs.now (g.D.Disk.moment c.args.disk.now).seen) (sym c.owes.ensures ∙ c.if-not-owes.false) c.in-Some.ensures.risen)
    (c.in_ok-made-in-Some.ensures.gives xs c.in-Some.ensures.some)

pub returns-in_err-shut-clause-disk : goal.returns-in_err-shut-clause-disk
returns-in_err-shut-clause-disk g c s =
    subst (λ (o : Outcome Store). Writes o.written c.args.packs.now (g.D.Disk.moment c.args.disk.now) (g.D.Disk.moment c.args.disk.now) c.args.out.now c.shut.new.out c.from_residual.result)
    (idle_close c.args.frame.now c.args.self.now s (sym c.owes.ensures ∙ c.if-not-owes.true))
    (nothing_failed c.args.packs.now (g.D.Disk.moment c.args.disk.now) c.args.out.now c.shut.new.out c.from_residual.result c.from_residual.ensures.1 c.requires.settled (g.met.D.Disk.only_now c.args.disk.now))

pub returns-then-not-owes-clause-disk : goal.returns-then-not-owes-clause-disk
returns-then-not-owes-clause-disk g c s =
    subst (λ (o : Outcome Store). Writes {T = Option Step} o.written c.args.packs.now (g.D.Disk.moment c.args.disk.now) (g.D.Disk.moment c.args.disk.now) c.args.out.now c.shut.new.out (Ok None))
    (idle_close c.args.frame.now c.args.self.now s (sym c.owes.ensures ∙ c.if-not-owes.true))
    (nothing_written c.args.packs.now (g.D.Disk.moment c.args.disk.now) c.args.out.now c.shut.new.out None c.requires.settled (g.met.D.Disk.only_now c.args.disk.now))

pub returns-in_err-shut-in-None-clause-disk : goal.returns-in_err-shut-in-None-clause-disk
returns-in_err-shut-in-None-clause-disk g c s =
    subst (λ (o : Outcome Store). Writes o.written c.args.packs.now (g.D.Disk.moment c.args.disk.now) (g.D.Disk.moment c.args.disk.now) c.args.out.now c.shut-in-None.new.out c.from_residual-in_err-shut-in-None.result)
    (spent_close c.args.frame.now c.args.self.now s (sym c.owes.ensures ∙ c.if-not-owes.false) c.in-None.ensures.none)
    (nothing_failed c.args.packs.now (g.D.Disk.moment c.args.disk.now) c.args.out.now c.shut-in-None.new.out c.from_residual-in_err-shut-in-None.result c.from_residual-in_err-shut-in-None.ensures.1 c.requires.settled (g.met.D.Disk.only_now c.args.disk.now))

pub returns-in_ok-shut-in-None-clause-disk : goal.returns-in_ok-shut-in-None-clause-disk
returns-in_ok-shut-in-None-clause-disk g c s =
    subst (λ (o : Outcome Store). Writes {T = Option Step} o.written c.args.packs.now (g.D.Disk.moment c.args.disk.now) (g.D.Disk.moment c.args.disk.now) c.args.out.now c.shut-in-None.new.out (Ok None))
    (spent_close c.args.frame.now c.args.self.now s (sym c.owes.ensures ∙ c.if-not-owes.false) c.in-None.ensures.none)
    (nothing_written c.args.packs.now (g.D.Disk.moment c.args.disk.now) c.args.out.now c.shut-in-None.new.out None c.requires.settled (g.met.D.Disk.only_now c.args.disk.now))

pub returns-in_err-shut-clause-unfit : goal.returns-in_err-shut-clause-unfit
returns-in_err-shut-clause-unfit g c so can = memory_fit c.from_residual.result c.from_residual.ensures.1 so

pub returns-in_err-shut-in-None-clause-unfit : goal.returns-in_err-shut-in-None-clause-unfit
returns-in_err-shut-in-None-clause-unfit g c so can = memory_fit c.from_residual-in_err-shut-in-None.result c.from_residual-in_err-shut-in-None.ensures.1 so

pub returns-in_err-made-in-Some-clause-unfit : goal.returns-in_err-made-in-Some-clause-unfit
returns-in_err-made-in-Some-clause-unfit g c =
    let groups : List ℕ = groups_of c.args.packs.now in
    let copies : List FileCopy = copies_on groups (g.D.Disk.moment c.args.disk.now).seen in
    unfit_at {S = Option Step} (CanCommit c.args.frame.now groups copies c.args.self.now) c.from_residual-in_err-made-in-Some.result c.in_err-made-in-Some.field-0.0 c.from_residual-in_err-made-in-Some.ensures.1
    (λ so can. c.in_err-made-in-Some.ensures.unfit so
    (subst (λ v. CanStore groups copies c.args.self.now v (next_stamp c.args.frame.now v)) (sym c.in-Some.ensures.some) (can (sym c.owes.ensures ∙ c.if-not-owes.false) c.in-Some.ensures.risen)))
