use Rattle.site_parts.specs.Roles.{mending_by}
use Rattle.site_parts.proofs.Mendings.{works_mend}
use Rattle.site_parts.proofs.Working.{works_alike}
use Rattle.std.proofs.Common.{subst}
use Rattle.trace_book.specs.declared.operation.Op.{Op}
use Rattle.role_steps.specs.Storage.{instance_key}
use Rattle.role_steps.specs.Tables.{row}
use Rattle.role_steps.specs.Views.{serial_key}
use Rattle.run_laws.specs.of_the_run.Steps.{group_of}
use Rattle.site_parts.specs.Fitting.{CanRest}
use Rattle.site_parts.proofs.Fits.{operates_alike, operates_mend}
use Rattle.site_parts.proofs.mending.work_for.Goals as goal

pub returns-in-Mend-clause-work : goal.returns-in-Mend-clause-work
returns-in-Mend-clause-work c = works_mend c.args.inst c.args.op.now c.args.tables.now c.args.users.now c.args.store.now.instances c.mending_work.result c.mending_work.ensures.work

pub returns-in_default-clause-work : goal.returns-in_default-clause-work
returns-in_default-clause-work c = λ f k seen s e. works_alike f c.no_work.result (mending_by c.args.tables.now c.args.users.now s c.args.inst) c.args.inst k c.args.op.now seen s c.in_default.not-Mend

pub returns-in-Mend-clause-can : goal.returns-in-Mend-clause-can
returns-in-Mend-clause-can c = operates_mend c.args.inst c.args.op.now c.args.tables.now c.args.users.now c.args.store.now.instances c.mending_work.result c.mending_work.ensures.work

pub returns-in_default-clause-can : goal.returns-in_default-clause-can
returns-in_default-clause-can c = λ f groups k s e can. operates_alike f (mending_by c.args.tables.now c.args.users.now s c.args.inst) c.no_work.result groups c.args.inst k c.args.op.now s c.in_default.not-Mend can

pub returns-in-Mend-clause-unfit : goal.returns-in-Mend-clause-unfit
returns-in-Mend-clause-unfit c so can =
    c.mending_work.ensures.unfit so (subst (λ (o : Op). CanRest c.args.tables.now (group_of (row instance_key (serial_key c.args.inst) c.args.store.now.instances)) o) c.in-Mend.is can)
