use Rattle.std.proofs.Common.{◌≢◌}
use Rattle.role_steps.specs.Epochs.{leaves}
use Rattle.the_run.specs.Steps.{ends_event}
use Rattle.site_parts.specs.Faults.{fault_of_order}
use Rattle.site_node.specs.Views.{view_of}
use Rattle.site_parts.specs.declared.fault.NodeFault.TheVariants.{NoMemory, NoNumber}
use Rattle.site_parts.proofs.Cuts.{ended_ill, ended_late, ended_well, failed_still, order_off}
use Rattle.site_node.proofs.Unwritten.{leave_step}
use Rattle.site_node.proofs.Endings.{event_alone}
use Rattle.site_node.proofs.Moving.{moves_from, moves_work}
use Rattle.site_parts.proofs.Numbers.{if_err, memory_numbered, order_numbered}
use Rattle.site_parts.proofs.Fits.{memory_fit}
use Rattle.site_parts.proofs.Fits.{unfit_at}
use Rattle.site_node.proofs.Fitted.{fault_at, order_unfit, own_fit, tables_then}
use Rattle.site_packs.specs.Packs.{groups_of}
use Rattle.site_node.specs.Fitting.{CanAct}
use Rattle.role_steps.specs.Views.{GivesUp}
use Rattle.site_node.proofs.node.SiteNode.give_up.Goals as goal

pub end_event-requires : goal.end_event-requires
end_event-requires g c = (moves_work (leaves c.args.self.now.frame.me) c.args.self.now c.leave.new.self (g.D.Disk.moment c.args.disk.now) c.new-own.result c.leave.new.out c.requires c.in_ok-leave.ensures).stands

pub returns-clause-step : goal.returns-clause-step
returns-clause-step g c = event_alone (leaves c.args.self.now.frame.me) (ends_event c.args.self.now.frame.config c.args.self.now.frame.me c.args.links.now) c.args.self.now c.leave.new.self c.end_event.new.self (g.D.Disk.moment c.args.disk.now) (g.D.Disk.moment c.args.disk.now) (g.D.Disk.moment c.end_event.new.disk) c.new-own.result c.leave.new.out c.end_event.new.out c.args.out.now c.add_in_order.new.self c.new-own.ensures.packets c.new-own.ensures.records
    (moves_work (leaves c.args.self.now.frame.me) c.args.self.now c.leave.new.self (g.D.Disk.moment c.args.disk.now) c.new-own.result c.leave.new.out c.requires c.in_ok-leave.ensures)
    (moves_from (λ k me. ends_event k me c.args.links.now) c.args.self.now c.leave.new.self c.end_event.new.self (g.D.Disk.moment c.args.disk.now) (g.D.Disk.moment c.end_event.new.disk) c.leave.new.out c.end_event.new.out c.in_ok-leave.ensures.config c.in_ok-leave.ensures.me c.in_ok-end_event.ensures.step)
    c.in_ok-add_in_order.ensures.order

pub returns-clause-disk : goal.returns-clause-disk
returns-clause-disk g c = ended_well _ (leave_step c.args.self.now.frame.config c.args.self.now.frame.me c.args.links.now (view_of c.args.self.now (g.D.Disk.moment c.args.disk.now).seen)) c.args.self.now.packs c.leave.new.self.packs (g.D.Disk.moment c.args.disk.now) (g.D.Disk.moment c.end_event.new.disk) c.args.out.now c.add_in_order.new.self c.leave.new.out c.end_event.new.out {T = Unit {0}} {S = Unit {0}} tt tt c.in_ok-end_event.ensures.disk

pub returns-in_err-leave-clause-disk : goal.returns-in_err-leave-clause-disk
returns-in_err-leave-clause-disk g c = failed_still _ c.args.self.now.packs (g.D.Disk.moment c.args.disk.now) c.args.out.now c.args.out.now c.from_residual.result NoMemory c.from_residual.ensures.1 tt c.requires.settled (g.met.D.Disk.only_now c.args.disk.now)

pub returns-in_err-end_event-clause-disk : goal.returns-in_err-end_event-clause-disk
returns-in_err-end_event-clause-disk g c = ended_ill _ (leave_step c.args.self.now.frame.config c.args.self.now.frame.me c.args.links.now (view_of c.args.self.now (g.D.Disk.moment c.args.disk.now).seen)) c.args.self.now.packs c.leave.new.self.packs (g.D.Disk.moment c.args.disk.now) (g.D.Disk.moment c.end_event.new.disk) c.args.out.now c.args.out.now c.leave.new.out c.end_event.new.out {T = Unit {0}} {S = Unit {0}} c.from_residual-in_err-end_event.result c.in_err-end_event.field-0.0 c.from_residual-in_err-end_event.ensures.1 c.in_err-end_event.ensures.disk

pub returns-in_err-add_in_order-clause-disk : goal.returns-in_err-add_in_order-clause-disk
returns-in_err-add_in_order-clause-disk g c = ended_late _ (leave_step c.args.self.now.frame.config c.args.self.now.frame.me c.args.links.now (view_of c.args.self.now (g.D.Disk.moment c.args.disk.now).seen)) c.args.self.now.packs c.leave.new.self.packs (g.D.Disk.moment c.args.disk.now) (g.D.Disk.moment c.end_event.new.disk) c.args.out.now c.add_in_order.new.self c.leave.new.out c.end_event.new.out {T = Unit {0}} {S = Unit {0}} c.from_residual-in_err-add_in_order.result (fault_of_order c.in_err-add_in_order.field-0.0) tt c.from_residual-in_err-add_in_order.ensures.1 (order_off c.in_err-add_in_order.field-0.0) c.in_ok-end_event.ensures.disk

pub returns-in_err-leave-clause-numbered : goal.returns-in_err-leave-clause-numbered
returns-in_err-leave-clause-numbered g c = if_err c.from_residual.result NoMemory (λ f. f ≢ NoNumber) c.from_residual.ensures.1 memory_numbered

pub returns-in_err-end_event-clause-numbered : goal.returns-in_err-end_event-clause-numbered
returns-in_err-end_event-clause-numbered g c = if_err c.from_residual-in_err-end_event.result c.in_err-end_event.field-0.0 (λ f. f ≢ NoNumber) c.from_residual-in_err-end_event.ensures.1 c.in_err-end_event.ensures.numbered

pub returns-in_err-add_in_order-clause-numbered : goal.returns-in_err-add_in_order-clause-numbered
returns-in_err-add_in_order-clause-numbered g c = if_err c.from_residual-in_err-add_in_order.result (fault_of_order c.in_err-add_in_order.field-0.0) (λ f. f ≢ NoNumber) c.from_residual-in_err-add_in_order.ensures.1 (order_numbered c.in_err-add_in_order.field-0.0)

pub returns-in_err-leave-clause-unfit : goal.returns-in_err-leave-clause-unfit
returns-in_err-leave-clause-unfit g c so can = memory_fit c.from_residual.result c.from_residual.ensures.1 so

pub returns-in_err-end_event-clause-unfit : goal.returns-in_err-end_event-clause-unfit
returns-in_err-end_event-clause-unfit g c = unfit_at {S = Unit {0}} (CanAct c.args.self.now.frame.config c.args.self.now.frame.me (groups_of c.args.self.now.packs) c.args.self.now.packs.site c.args.links.now (view_of c.args.self.now (g.D.Disk.moment c.args.disk.now).seen) GivesUp) c.from_residual-in_err-end_event.result c.in_err-end_event.field-0.0 c.from_residual-in_err-end_event.ensures.1
    (λ so can. c.in_err-end_event.ensures.unfit so (tables_then (leaves c.args.self.now.frame.me) c.args.links.now c.args.self.now c.leave.new.self (g.D.Disk.moment c.args.disk.now) (g.D.Disk.moment c.args.disk.now) c.new-own.result c.leave.new.out (moves_work (leaves c.args.self.now.frame.me) c.args.self.now c.leave.new.self (g.D.Disk.moment c.args.disk.now) c.new-own.result c.leave.new.out c.requires c.in_ok-leave.ensures) can.mending))

pub returns-in_err-add_in_order-clause-unfit : goal.returns-in_err-add_in_order-clause-unfit
returns-in_err-add_in_order-clause-unfit g c = fault_at (CanAct c.args.self.now.frame.config c.args.self.now.frame.me (groups_of c.args.self.now.packs) c.args.self.now.packs.site c.args.links.now (view_of c.args.self.now (g.D.Disk.moment c.args.disk.now).seen) GivesUp) c.from_residual-in_err-add_in_order.result (fault_of_order c.in_err-add_in_order.field-0.0) c.from_residual-in_err-add_in_order.ensures.1
    (order_unfit {S = Unit {0}} (CanAct c.args.self.now.frame.config c.args.self.now.frame.me (groups_of c.args.self.now.packs) c.args.self.now.packs.site c.args.links.now (view_of c.args.self.now (g.D.Disk.moment c.args.disk.now).seen) GivesUp) c.in_err-add_in_order.field-0.0 (λ so can. c.in_err-add_in_order.ensures.unfit so
    (own_fit (leaves c.args.self.now.frame.me) (ends_event c.args.self.now.frame.config c.args.self.now.frame.me c.args.links.now) c.args.self.now c.leave.new.self c.end_event.new.self (g.D.Disk.moment c.args.disk.now) (g.D.Disk.moment c.args.disk.now) (g.D.Disk.moment c.end_event.new.disk) c.new-own.result c.leave.new.out c.end_event.new.out c.new-own.ensures.packets c.new-own.ensures.records
    (moves_work (leaves c.args.self.now.frame.me) c.args.self.now c.leave.new.self (g.D.Disk.moment c.args.disk.now) c.new-own.result c.leave.new.out c.requires c.in_ok-leave.ensures)
    (moves_from (λ k me. ends_event k me c.args.links.now) c.args.self.now c.leave.new.self c.end_event.new.self (g.D.Disk.moment c.args.disk.now) (g.D.Disk.moment c.end_event.new.disk) c.leave.new.out c.end_event.new.out c.in_ok-leave.ensures.config c.in_ok-leave.ensures.me c.in_ok-end_event.ensures.step)
    can.sending)))
