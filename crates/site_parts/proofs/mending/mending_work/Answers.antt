use Rattle.site_parts.proofs.Mendings.{work_is}
use Rattle.std.proofs.Common.{◌≡◌, ℕ, List, subst}
use Rattle.dir_reconcile.specs.declared.kept.KeptVector.{KeptVector}
use Rattle.role_steps.specs.Adoption.{table_group}
use Rattle.role_steps.specs.Storage.{instance_key}
use Rattle.role_steps.specs.Tables.{row}
use Rattle.role_steps.specs.Views.{serial_key}
use Rattle.run_laws.specs.of_the_run.Steps.{group_of}
use Rattle.site_parts.specs.Fitting.{AreInodesOf}
use Rattle.site_parts.proofs.Fits.{group_named, memory_fit, unfit_at}
use Rattle.site_parts.proofs.mending.mending_work.Goals as goal

pub returns-clause-work : goal.returns-clause-work
returns-clause-work c = λ s e. work_is c.args.tables.now c.args.users.now s c.args.store.now.instances c.args.inst c.instance_group.result c.unwrap_or-group.result c.in_ok-brought.field-0 c.in_ok-vectors_of.field-0 c.instance_group.ensures c.unwrap_or-group.ensures c.in_ok-brought.ensures c.in_ok-vectors_of.ensures.kept e

pub returns-in_err-brought-clause-unfit : goal.returns-in_err-brought-clause-unfit
returns-in_err-brought-clause-unfit c so can = memory_fit c.from_residual.result c.from_residual.ensures.1 so

pub returns-in_err-vectors_of-clause-unfit : goal.returns-in_err-vectors_of-clause-unfit
returns-in_err-vectors_of-clause-unfit c =
    let same : group_of (row instance_key (serial_key c.args.inst) c.args.store.now.instances) ≡ c.unwrap_or-group.result = group_named (row instance_key (serial_key c.args.inst) c.args.store.now.instances) c.instance_group.result c.unwrap_or-group.result c.instance_group.ensures c.unwrap_or-group.ensures in
    unfit_at {S = List KeptVector} (AreInodesOf (row table_group (group_of (row instance_key (serial_key c.args.inst) c.args.store.now.instances)) c.args.tables.now)) c.from_residual-in_err-vectors_of.result c.in_err-vectors_of.field-0.0 c.from_residual-in_err-vectors_of.ensures.1
    (λ so can. c.in_err-vectors_of.ensures.unfit so (subst (λ (k : ℕ). AreInodesOf (row table_group k c.args.tables.now)) same can))
