use Rattle.role_steps.specs.Operations.{on_op}
use Rattle.storage_site.specs.of_store_instances.Stores.{store_of}
use Rattle.site_parts.proofs.Cuts.{store_err, store_ok}
use Rattle.std.proofs.Common.{◌≢◌}
use Rattle.site_parts.specs.Faults.{fault_of_store}
use Rattle.site_parts.specs.declared.fault.NodeFault.TheVariants.{NoNumber}
use Rattle.site_parts.proofs.Numbers.{if_err, store_numbered}
use Rattle.storage_site.specs.Fitting.{CanOperateAt}
use Rattle.site_parts.proofs.Fits.{refused_store}
use Rattle.site_packs.specs.Packs.{groups_of}
use Rattle.site_parts.proofs.storing.take_op.Goals as goal

pub returns-clause-disk : goal.returns-clause-disk
returns-clause-disk g c = store_ok {T = Unit {0}} {S = Unit {0}} (on_op c.args.frame.now c.args.work.now c.args.inst c.args.number c.args.op.now c.args.seen.now (store_of c.args.store.now c.args.packs.now (g.D.Disk.moment c.args.disk.now).seen)).written c.args.packs.now (g.D.Disk.moment c.args.disk.now) (g.D.Disk.moment c.on_op.new.disk) c.args.out.now c.on_op.new.out tt tt c.in_ok-on_op.ensures.disk

pub returns-in_err-on_op-clause-disk : goal.returns-in_err-on_op-clause-disk
returns-in_err-on_op-clause-disk g c = store_err {T = Unit {0}} {S = Unit {0}} (on_op c.args.frame.now c.args.work.now c.args.inst c.args.number c.args.op.now c.args.seen.now (store_of c.args.store.now c.args.packs.now (g.D.Disk.moment c.args.disk.now).seen)).written c.args.packs.now (g.D.Disk.moment c.args.disk.now) (g.D.Disk.moment c.on_op.new.disk) c.args.out.now c.on_op.new.out c.from_residual.result c.in_err-on_op.field-0.0 c.from_residual.ensures.1 c.in_err-on_op.ensures.disk

pub returns-in_err-on_op-clause-numbered : goal.returns-in_err-on_op-clause-numbered
returns-in_err-on_op-clause-numbered g c = if_err c.from_residual.result (fault_of_store c.in_err-on_op.field-0.0) (λ f. f ≢ NoNumber) c.from_residual.ensures.1 (store_numbered c.in_err-on_op.field-0.0)

pub returns-in_err-on_op-clause-unfit : goal.returns-in_err-on_op-clause-unfit
returns-in_err-on_op-clause-unfit g c = refused_store {S = Unit {0}} (CanOperateAt c.args.frame.now c.args.work.now (groups_of c.args.packs.now) c.args.inst c.args.number c.args.op.now (store_of c.args.store.now c.args.packs.now (g.D.Disk.moment c.args.disk.now).seen)) c.from_residual.result c.in_err-on_op.field-0.0 c.from_residual.ensures.1 c.in_err-on_op.ensures.unfit
