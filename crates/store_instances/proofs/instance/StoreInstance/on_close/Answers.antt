use Rattle.std.proofs.Common.{List, ℕ, Option, None}
use Rattle.std.proofs.Common.{Ok, refl, subst, sym, ◌∙◌}
use Rattle.role_steps.specs.Views.{Store, Outcome}
use Rattle.store_instances.specs.Stores.{RowGives, again_packets, store_of}
use Rattle.store_instances.specs.Writes.{Writes}
use Rattle.store_instances.proofs.Given.{again_close, running_close, sends_so}
use Rattle.store_instances.specs.Fitting.{CanClose}
use Rattle.store_instances.proofs.Fits.{closes_running, memory_fit, unfit_at}
use Rattle.site_packs.specs.Packs.{groups_of}
use Rattle.site_packs.specs.Copies.{copies_on}
use Rattle.role_steps.specs.declared.copies.FileCopy.{FileCopy}
use Rattle.role_steps.specs.declared.copies.Step.{Step}
use Rattle.store_instances.proofs.instance.StoreInstance.on_close.Goals as goal

pub returns-clause-gives : goal.returns-clause-gives
returns-clause-gives g c xs h =
    subst (λ (o : Outcome Store). RowGives o xs None c.args.self.now c.args.packs.now (g.D.Disk.moment c.args.disk.now).seen c.args.out.now c.close_again.new.out)
    (again_close c.args.frame.now c.args.self.now c.args.self.now.stage (store_of xs c.args.packs.now (g.D.Disk.moment c.args.disk.now).seen) (sym c.is_running.ensures ∙ c.if-is_running.false))
    (sends_so xs c.args.packs.now (g.D.Disk.moment c.args.disk.now).seen (again_packets c.args.frame.now c.args.self.now c.args.self.now.stage) c.args.self.now c.args.self.now c.args.out.now c.close_again.new.out h refl
    c.in_ok-close_again.ensures.packets c.in_ok-close_again.ensures.records)

pub returns-then-is_running-clause-disk : goal.returns-then-is_running-clause-disk
returns-then-is_running-clause-disk g c s =
    subst (λ (o : Outcome Store). Writes o.written c.args.packs.now (g.D.Disk.moment c.args.disk.now) (g.D.Disk.moment c.close.new.disk) c.args.out.now c.close.new.out (Ok c.in_ok-made.made))
    (running_close c.args.frame.now c.args.self.now c.args.self.now.stage s (sym c.is_running.ensures ∙ c.if-is_running.true))
    (c.in_ok-made.ensures.disk s)

pub returns-in_err-made-clause-unfit : goal.returns-in_err-made-clause-unfit
returns-in_err-made-clause-unfit g c =
    let groups : List ℕ = groups_of c.args.packs.now in
    let copies : List FileCopy = copies_on groups (g.D.Disk.moment c.args.disk.now).seen in
    unfit_at {S = Option Step} (CanClose c.args.frame.now groups copies c.args.self.now c.args.self.now.stage) c.from_residual.result c.in_err-made.field-0.0 c.from_residual.ensures.1
    (λ so can. c.in_err-made.ensures.unfit so (closes_running c.args.frame.now groups copies c.args.self.now c.args.self.now.stage (sym c.is_running.ensures ∙ c.if-is_running.true) can))

pub returns-in_err-close_again-clause-unfit : goal.returns-in_err-close_again-clause-unfit
returns-in_err-close_again-clause-unfit g c so can = memory_fit c.from_residual-in_err-close_again.result c.from_residual-in_err-close_again.ensures.1 so
