use Rattle.std.proofs.Common.{ap}
use Rattle.store_instances.proofs.Given.{owed_so}
use Rattle.role_steps.specs.Storage.{next_stamp}
use Rattle.store_instances.specs.Fitting.{CanStore}
use Rattle.store_instances.proofs.Fits.{memory_fit, unfit_at}
use Rattle.role_steps.specs.declared.copies.Step.{Step}
use Rattle.site_packs.specs.Packs.{groups_of}
use Rattle.site_packs.specs.Copies.{copies_on}
use Rattle.store_instances.proofs.instance.StoreInstance.commit_owed.Goals as goal

pub returns-clause-gives : goal.returns-clause-gives
returns-clause-gives g c xs v =
    owed_so c.args.frame.now c.args.self.now xs c.args.packs.now c.commit.new.packs (g.D.Disk.moment c.args.disk.now).seen (g.D.Disk.moment c.commit.new.disk).seen c.act_counted.new.self c.args.out.now c.act_counted.new.out
    c.args.vector.now c.in_ok-step.step.after c.in_ok-step.step c.commit.new.self c.commit.new.out v (ap (λ (s : Step). s.after) c.in_ok-step.ensures.step) c.in_ok-step.ensures.step c.in_ok-step.ensures.row c.in_ok-step.ensures.copies c.in_ok-step.ensures.packets c.in_ok-step.ensures.records
    c.in_ok-act_counted.ensures.row c.in_ok-act_counted.ensures.packets c.in_ok-act_counted.ensures.records

pub returns-in_err-step-clause-unfit : goal.returns-in_err-step-clause-unfit
returns-in_err-step-clause-unfit g c =
    unfit_at {S = Step} (CanStore (groups_of c.args.packs.now) (copies_on (groups_of c.args.packs.now) (g.D.Disk.moment c.args.disk.now).seen) c.args.self.now c.args.vector.now (next_stamp c.args.frame.now c.args.vector.now)) c.from_residual.result c.in_err-step.field-0.0 c.from_residual.ensures.1 c.in_err-step.ensures.unfit

pub returns-in_err-act_counted-clause-unfit : goal.returns-in_err-act_counted-clause-unfit
returns-in_err-act_counted-clause-unfit g c so can = memory_fit c.from_residual-in_err-act_counted.result c.from_residual-in_err-act_counted.ensures.1 so
