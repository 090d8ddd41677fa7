use Rattle.role_steps.specs.Storage.{on_close}
use Rattle.storage_site.specs.of_store_instances.Stores.{store_of}
use Rattle.site_parts.proofs.Cuts.{store_err, store_ok}
use Rattle.std.proofs.Common.{◌≢◌}
use Rattle.site_parts.specs.Faults.{fault_of_store}
use Rattle.site_parts.specs.declared.fault.NodeFault.TheVariants.{NoNumber}
use Rattle.site_parts.proofs.Numbers.{if_err, store_numbered}
use Rattle.storage_site.specs.Fitting.{CanCloseAt}
use Rattle.site_parts.proofs.Fits.{refused_store}
use Rattle.site_packs.specs.Packs.{groups_of}
use Rattle.site_parts.proofs.storing.take_close.Goals as goal

pub returns-clause-disk : goal.returns-clause-disk
returns-clause-disk g c = store_ok {T = Unit {0}} {S = Unit {0}} (on_close c.args.frame.now c.args.inst (store_of c.args.store.now c.args.packs.now (g.D.Disk.moment c.args.disk.now).seen)).written c.args.packs.now (g.D.Disk.moment c.args.disk.now) (g.D.Disk.moment c.on_close.new.disk) c.args.out.now c.on_close.new.out tt tt c.in_ok-on_close.ensures.disk

pub returns-in_err-on_close-clause-disk : goal.returns-in_err-on_close-clause-disk
returns-in_err-on_close-clause-disk g c = store_err {T = Unit {0}} {S = Unit {0}} (on_close c.args.frame.now c.args.inst (store_of c.args.store.now c.args.packs.now (g.D.Disk.moment c.args.disk.now).seen)).written c.args.packs.now (g.D.Disk.moment c.args.disk.now) (g.D.Disk.moment c.on_close.new.disk) c.args.out.now c.on_close.new.out c.from_residual.result c.in_err-on_close.field-0.0 c.from_residual.ensures.1 c.in_err-on_close.ensures.disk

pub returns-in_err-on_close-clause-numbered : goal.returns-in_err-on_close-clause-numbered
returns-in_err-on_close-clause-numbered g c = if_err c.from_residual.result (fault_of_store c.in_err-on_close.field-0.0) (λ f. f ≢ NoNumber) c.from_residual.ensures.1 (store_numbered c.in_err-on_close.field-0.0)

pub returns-in_err-on_close-clause-unfit : goal.returns-in_err-on_close-clause-unfit
returns-in_err-on_close-clause-unfit g c = refused_store {S = Unit {0}} (CanCloseAt c.args.frame.now (groups_of c.args.packs.now) c.args.inst (store_of c.args.store.now c.args.packs.now (g.D.Disk.moment c.args.disk.now).seen)) c.from_residual.result c.in_err-on_close.field-0.0 c.from_residual.ensures.1 c.in_err-on_close.ensures.unfit
