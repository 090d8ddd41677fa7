use Rattle.the_run.specs.Steps.{adopts_in}
use Rattle.site_packs.specs.Packs.{PacksState, Stand}
use Rattle.std.proofs.Common.{sym, subst, ◌≢◌}
use Rattle.std.specs.Prelude.{Ok, Err}
use Rattle.site_parts.specs.Faults.{fault_of_order}
use Rattle.site_node.specs.Views.{view_of}
use Rattle.site_parts.specs.declared.fault.NodeFault.TheVariants.{NoMemory, NoNumber}
use Rattle.site_parts.proofs.Cuts.{failed_after, handed, order_off, written_as}
use Rattle.site_node.proofs.Together.{cut_told, then_reads}
use Rattle.site_node.proofs.Ticks.{tick_given}
use Rattle.site_node.proofs.Unwritten.{tick_step}
use Rattle.site_node.proofs.Together.{handed_numbered}
use Rattle.site_parts.proofs.Numbers.{if_err, memory_numbered, order_numbered}
use Rattle.site_parts.proofs.Fits.{memory_fit}
use Rattle.site_parts.proofs.Fits.{unfit_at}
use Rattle.site_node.proofs.Fitted.{fault_at, handed_unfit, order_unfit}
use Rattle.site_packs.specs.Packs.{groups_of}
use Rattle.site_node.specs.Fitting.{CanAct}
use Rattle.role_steps.specs.Views.{Ticks}
use Rattle.site_node.proofs.Ticked.{again_fit, last_fit, late_tables}
use Rattle.site_node.proofs.node.SiteNode.tick.Goals as goal

pub end_event-requires : goal.end_event-requires
end_event-requires g c = subst (λ (p : PacksState). Stand p (g.D.Disk.moment c.adopt.new.disk)) (sym c.in_ok-repeat.ensures.adds.packs) c.in_default.ensures.step.stands

pub returns-clause-step : goal.returns-clause-step
returns-clause-step g c = tick_given c.args.links.now c.args.self.now c.adopt.new.self c.repeat.new.self c.end_event.new.self (g.D.Disk.moment c.args.disk.now) (g.D.Disk.moment c.adopt.new.disk) (g.D.Disk.moment c.end_event.new.disk) c.new-adopted.result c.adopt.new.out c.new-last.result c.end_event.new.out c.args.out.now c.add.new.self c.repeat.new.out c.add_in_order.new.self
    c.new-adopted.ensures.packets c.new-adopted.ensures.records c.new-last.ensures.packets c.new-last.ensures.records c.in_default.ensures.step c.in_ok-add.ensures c.in_ok-repeat.ensures.adds c.in_ok-end_event.ensures.step c.in_ok-add_in_order.ensures.order

pub returns-in-Err-clause-disk : goal.returns-in-Err-clause-disk
returns-in-Err-clause-disk g c = written_as _ (adopts_in c.args.self.now.frame.config c.args.self.now.frame.me (view_of c.args.self.now (g.D.Disk.moment c.args.disk.now).seen)).written _ _ _ _ _ _ (tick_step c.args.self.now.frame.config c.args.self.now.frame.me c.args.links.now (view_of c.args.self.now (g.D.Disk.moment c.args.disk.now).seen)) (cut_told {T = Unit {0}} {S = Unit {0}} (adopts_in c.args.self.now.frame.config c.args.self.now.frame.me (view_of c.args.self.now (g.D.Disk.moment c.args.disk.now).seen)).written c.args.self.now.packs (g.D.Disk.moment c.args.disk.now) (g.D.Disk.moment c.adopt.new.disk) c.new-adopted.result c.adopt.new.out c.args.out.now c.cut_off.new.out c.in-Err.fault c.cut_off.result c.new-adopted.ensures.packets c.new-adopted.ensures.records c.cut_off.ensures.fault c.cut_off.ensures.told c.in-Err.ensures.disk)

pub returns-in_err-add-clause-disk : goal.returns-in_err-add-clause-disk
returns-in_err-add-clause-disk g c = written_as _ (adopts_in c.args.self.now.frame.config c.args.self.now.frame.me (view_of c.args.self.now (g.D.Disk.moment c.args.disk.now).seen)).written _ _ _ _ _ _ (tick_step c.args.self.now.frame.config c.args.self.now.frame.me c.args.links.now (view_of c.args.self.now (g.D.Disk.moment c.args.disk.now).seen)) (failed_after {T = Unit {0}} {S = Unit {0}} (adopts_in c.args.self.now.frame.config c.args.self.now.frame.me (view_of c.args.self.now (g.D.Disk.moment c.args.disk.now).seen)).written c.args.self.now.packs (g.D.Disk.moment c.args.disk.now) (g.D.Disk.moment c.adopt.new.disk) c.args.out.now c.add.new.self c.new-adopted.result c.adopt.new.out tt c.from_residual.result NoMemory c.in_default.ensures.disk c.from_residual.ensures.1 tt)

pub returns-in_err-repeat-clause-disk : goal.returns-in_err-repeat-clause-disk
returns-in_err-repeat-clause-disk g c = written_as _ (adopts_in c.args.self.now.frame.config c.args.self.now.frame.me (view_of c.args.self.now (g.D.Disk.moment c.args.disk.now).seen)).written _ _ _ _ _ _ (tick_step c.args.self.now.frame.config c.args.self.now.frame.me c.args.links.now (view_of c.args.self.now (g.D.Disk.moment c.args.disk.now).seen)) (failed_after {T = Unit {0}} {S = Unit {0}} (adopts_in c.args.self.now.frame.config c.args.self.now.frame.me (view_of c.args.self.now (g.D.Disk.moment c.args.disk.now).seen)).written c.args.self.now.packs (g.D.Disk.moment c.args.disk.now) (g.D.Disk.moment c.adopt.new.disk) c.args.out.now c.repeat.new.out c.new-adopted.result c.adopt.new.out tt c.from_residual-in_err-repeat.result (fault_of_order c.in_err-repeat.field-0.0) c.in_default.ensures.disk c.from_residual-in_err-repeat.ensures.1 (order_off c.in_err-repeat.field-0.0))

pub returns-in_err-end_event-clause-disk : goal.returns-in_err-end_event-clause-disk
returns-in_err-end_event-clause-disk g c = written_as _ (adopts_in c.args.self.now.frame.config c.args.self.now.frame.me (view_of c.args.self.now (g.D.Disk.moment c.args.disk.now).seen)).written _ _ _ _ _ _ (tick_step c.args.self.now.frame.config c.args.self.now.frame.me c.args.links.now (view_of c.args.self.now (g.D.Disk.moment c.args.disk.now).seen)) (handed {T = Unit {0}} {S = Unit {0}} (adopts_in c.args.self.now.frame.config c.args.self.now.frame.me (view_of c.args.self.now (g.D.Disk.moment c.args.disk.now).seen)).written c.args.self.now.packs (g.D.Disk.moment c.args.disk.now) (g.D.Disk.moment c.end_event.new.disk) c.args.out.now c.repeat.new.out c.from_residual-in_err-end_event.result c.in_err-end_event.field-0.0 c.from_residual-in_err-end_event.ensures.1
    (then_reads g.D.Disk.moment g.met.D.Disk.reads_an_image g.met.D.Disk.counts_now {S = Unit {0}} {T = Unit {0}} (adopts_in c.args.self.now.frame.config c.args.self.now.frame.me (view_of c.args.self.now (g.D.Disk.moment c.args.disk.now).seen)).written c.args.self.now.packs c.repeat.new.self.packs c.args.disk.now c.adopt.new.disk c.end_event.new.disk c.new-adopted.result c.adopt.new.out c.new-last.result c.end_event.new.out c.args.out.now c.repeat.new.out tt (Err c.in_err-end_event.field-0.0) c.in_default.ensures.disk c.in_err-end_event.ensures.disk))

pub returns-in_err-add_in_order-clause-disk : goal.returns-in_err-add_in_order-clause-disk
returns-in_err-add_in_order-clause-disk g c = written_as _ (adopts_in c.args.self.now.frame.config c.args.self.now.frame.me (view_of c.args.self.now (g.D.Disk.moment c.args.disk.now).seen)).written _ _ _ _ _ _ (tick_step c.args.self.now.frame.config c.args.self.now.frame.me c.args.links.now (view_of c.args.self.now (g.D.Disk.moment c.args.disk.now).seen)) (failed_after {T = Unit {0}} {S = Unit {0}} (adopts_in c.args.self.now.frame.config c.args.self.now.frame.me (view_of c.args.self.now (g.D.Disk.moment c.args.disk.now).seen)).written c.args.self.now.packs (g.D.Disk.moment c.args.disk.now) (g.D.Disk.moment c.end_event.new.disk) c.args.out.now c.add_in_order.new.self c.args.out.now c.repeat.new.out tt c.from_residual-in_err-add_in_order.result (fault_of_order c.in_err-add_in_order.field-0.0)
    (then_reads g.D.Disk.moment g.met.D.Disk.reads_an_image g.met.D.Disk.counts_now {S = Unit {0}} {T = Unit {0}} (adopts_in c.args.self.now.frame.config c.args.self.now.frame.me (view_of c.args.self.now (g.D.Disk.moment c.args.disk.now).seen)).written c.args.self.now.packs c.repeat.new.self.packs c.args.disk.now c.adopt.new.disk c.end_event.new.disk c.new-adopted.result c.adopt.new.out c.new-last.result c.end_event.new.out c.args.out.now c.repeat.new.out tt (Ok tt) c.in_default.ensures.disk c.in_ok-end_event.ensures.disk)
    c.from_residual-in_err-add_in_order.ensures.1 (order_off c.in_err-add_in_order.field-0.0))

pub returns-clause-disk : goal.returns-clause-disk
returns-clause-disk g c = written_as _ (adopts_in c.args.self.now.frame.config c.args.self.now.frame.me (view_of c.args.self.now (g.D.Disk.moment c.args.disk.now).seen)).written _ _ _ _ _ _ (tick_step c.args.self.now.frame.config c.args.self.now.frame.me c.args.links.now (view_of c.args.self.now (g.D.Disk.moment c.args.disk.now).seen))
    (then_reads g.D.Disk.moment g.met.D.Disk.reads_an_image g.met.D.Disk.counts_now {S = Unit {0}} {T = Unit {0}} (adopts_in c.args.self.now.frame.config c.args.self.now.frame.me (view_of c.args.self.now (g.D.Disk.moment c.args.disk.now).seen)).written c.args.self.now.packs c.repeat.new.self.packs c.args.disk.now c.adopt.new.disk c.end_event.new.disk c.new-adopted.result c.adopt.new.out c.new-last.result c.end_event.new.out c.args.out.now c.add_in_order.new.self tt (Ok tt) c.in_default.ensures.disk c.in_ok-end_event.ensures.disk)

pub returns-in-Err-clause-numbered : goal.returns-in-Err-clause-numbered
returns-in-Err-clause-numbered g c = handed_numbered c.in-Err.fault c.cut_off.result c.cut_off.ensures.fault c.in-Err.ensures.numbered

pub returns-in_err-add-clause-numbered : goal.returns-in_err-add-clause-numbered
returns-in_err-add-clause-numbered g c = if_err c.from_residual.result NoMemory (λ f. f ≢ NoNumber) c.from_residual.ensures.1 memory_numbered

pub returns-in_err-repeat-clause-numbered : goal.returns-in_err-repeat-clause-numbered
returns-in_err-repeat-clause-numbered g c = if_err c.from_residual-in_err-repeat.result (fault_of_order c.in_err-repeat.field-0.0) (λ f. f ≢ NoNumber) c.from_residual-in_err-repeat.ensures.1 (order_numbered c.in_err-repeat.field-0.0)

pub returns-in_err-end_event-clause-numbered : goal.returns-in_err-end_event-clause-numbered
returns-in_err-end_event-clause-numbered g c = if_err c.from_residual-in_err-end_event.result c.in_err-end_event.field-0.0 (λ f. f ≢ NoNumber) c.from_residual-in_err-end_event.ensures.1 c.in_err-end_event.ensures.numbered

pub returns-in_err-add_in_order-clause-numbered : goal.returns-in_err-add_in_order-clause-numbered
returns-in_err-add_in_order-clause-numbered g c = if_err c.from_residual-in_err-add_in_order.result (fault_of_order c.in_err-add_in_order.field-0.0) (λ f. f ≢ NoNumber) c.from_residual-in_err-add_in_order.ensures.1 (order_numbered c.in_err-add_in_order.field-0.0)

pub returns-in-Err-clause-unfit : goal.returns-in-Err-clause-unfit
returns-in-Err-clause-unfit g c = handed_unfit {T = Unit {0}} {S = Unit {0}} (CanAct c.args.self.now.frame.config c.args.self.now.frame.me (groups_of c.args.self.now.packs) c.args.self.now.packs.site c.args.links.now (view_of c.args.self.now (g.D.Disk.moment c.args.disk.now).seen) Ticks) c.in-Err.fault c.cut_off.result c.cut_off.ensures.fault (λ so can. c.in-Err.ensures.unfit so can.adopting)

pub returns-in_err-add-clause-unfit : goal.returns-in_err-add-clause-unfit
returns-in_err-add-clause-unfit g c so can = memory_fit c.from_residual.result c.from_residual.ensures.1 so

pub returns-in_err-repeat-clause-unfit : goal.returns-in_err-repeat-clause-unfit
returns-in_err-repeat-clause-unfit g c = fault_at (CanAct c.args.self.now.frame.config c.args.self.now.frame.me (groups_of c.args.self.now.packs) c.args.self.now.packs.site c.args.links.now (view_of c.args.self.now (g.D.Disk.moment c.args.disk.now).seen) Ticks) c.from_residual-in_err-repeat.result (fault_of_order c.in_err-repeat.field-0.0) c.from_residual-in_err-repeat.ensures.1
    (order_unfit {S = Unit {0}} (CanAct c.args.self.now.frame.config c.args.self.now.frame.me (groups_of c.args.self.now.packs) c.args.self.now.packs.site c.args.links.now (view_of c.args.self.now (g.D.Disk.moment c.args.disk.now).seen) Ticks) c.in_err-repeat.field-0.0 (λ so can. c.in_err-repeat.ensures.unfit so (g.D.Disk.moment c.adopt.new.disk).seen c.in_default.ensures.step.stands.shown
    (again_fit c.args.links.now c.args.self.now c.adopt.new.self (g.D.Disk.moment c.args.disk.now) (g.D.Disk.moment c.adopt.new.disk) c.new-adopted.result c.adopt.new.out c.in_default.ensures.step can.sending)))

pub returns-in_err-end_event-clause-unfit : goal.returns-in_err-end_event-clause-unfit
returns-in_err-end_event-clause-unfit g c = unfit_at {S = Unit {0}} (CanAct c.args.self.now.frame.config c.args.self.now.frame.me (groups_of c.args.self.now.packs) c.args.self.now.packs.site c.args.links.now (view_of c.args.self.now (g.D.Disk.moment c.args.disk.now).seen) Ticks) c.from_residual-in_err-end_event.result c.in_err-end_event.field-0.0 c.from_residual-in_err-end_event.ensures.1
    (λ so can. c.in_err-end_event.ensures.unfit so (late_tables c.args.links.now c.args.self.now c.adopt.new.self c.repeat.new.self (g.D.Disk.moment c.args.disk.now) (g.D.Disk.moment c.adopt.new.disk) c.new-adopted.result c.adopt.new.out c.add.new.self c.repeat.new.out c.in_default.ensures.step c.in_ok-repeat.ensures.adds can.mending))

pub returns-in_err-add_in_order-clause-unfit : goal.returns-in_err-add_in_order-clause-unfit
returns-in_err-add_in_order-clause-unfit g c = fault_at (CanAct c.args.self.now.frame.config c.args.self.now.frame.me (groups_of c.args.self.now.packs) c.args.self.now.packs.site c.args.links.now (view_of c.args.self.now (g.D.Disk.moment c.args.disk.now).seen) Ticks) c.from_residual-in_err-add_in_order.result (fault_of_order c.in_err-add_in_order.field-0.0) c.from_residual-in_err-add_in_order.ensures.1
    (order_unfit {S = Unit {0}} (CanAct c.args.self.now.frame.config c.args.self.now.frame.me (groups_of c.args.self.now.packs) c.args.self.now.packs.site c.args.links.now (view_of c.args.self.now (g.D.Disk.moment c.args.disk.now).seen) Ticks) c.in_err-add_in_order.field-0.0 (λ so can. c.in_err-add_in_order.ensures.unfit so
    (last_fit c.args.links.now c.args.self.now c.adopt.new.self c.repeat.new.self c.end_event.new.self (g.D.Disk.moment c.args.disk.now) (g.D.Disk.moment c.adopt.new.disk) (g.D.Disk.moment c.end_event.new.disk) c.new-adopted.result c.adopt.new.out c.add.new.self c.repeat.new.out c.new-last.result c.end_event.new.out c.new-last.ensures.packets c.in_default.ensures.step c.in_ok-repeat.ensures.adds c.in_ok-end_event.ensures.step can.sending)))
