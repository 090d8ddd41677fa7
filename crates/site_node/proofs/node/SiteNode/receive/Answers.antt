use Rattle.std.proofs.Common.{sym, ◌∙◌, ◌≡◌}
use Rattle.std.specs.Prelude.{Ok, Err}
use Rattle.role_steps.specs.Views.{Receives}
use Rattle.the_run.specs.Steps.{tries_at}
use Rattle.site_parts.specs.Faults.{fault_of_order}
use Rattle.site_node.specs.Taking.{IsSpent, taken}
use Rattle.site_node.specs.Views.{steps_at, view_of}
use Rattle.site_parts.specs.declared.fault.NodeFault.TheVariants.{NoMemory, NoNumber}
use Rattle.site_parts.proofs.Cuts.{failed_after, handed, order_off, untouched}
use Rattle.site_node.proofs.Received.{dropped_none, receive_failed, received}
use Rattle.site_node.proofs.Together.{cut_told, then_reads}
use Rattle.site_node.proofs.Receives.{receives, receives_none}
use Rattle.site_node.proofs.Together.{handed_numbered, handed_spent}
use Rattle.site_parts.proofs.Numbers.{if_err, memory_numbered, order_numbered}
use Rattle.site_parts.proofs.Fits.{memory_fit}
use Rattle.site_parts.proofs.Fits.{unfit_at}
use Rattle.site_node.proofs.Fitted.{fault_at, handed_unfit, order_unfit}
use Rattle.site_packs.specs.Packs.{groups_of}
use Rattle.site_node.specs.Fitting.{CanAct}
use Rattle.site_node.proofs.Ticked.{came_fit, came_tables, tried_fit}
use Rattle.site_node.proofs.node.SiteNode.receive.Goals as goal

pub returns-then-is_dropped-clause-step : goal.returns-then-is_dropped-clause-step
returns-then-is_dropped-clause-step g c = receives_none c.args.links.now c.args.packet c.args.self.now (g.D.Disk.moment c.args.disk.now) c.args.out.now c.requires (sym (c.is_dropped.ensures (g.D.Disk.moment c.args.disk.now).seen) ∙ c.if-is_dropped.true)

pub returns-clause-step : goal.returns-clause-step
returns-clause-step g c = receives c.args.links.now c.args.packet c.args.self.now c.take.new.self c.try_adoption.new.self c.end_event.new.self (g.D.Disk.moment c.args.disk.now) (g.D.Disk.moment c.take.new.disk) (g.D.Disk.moment c.try_adoption.new.disk) (g.D.Disk.moment c.end_event.new.disk) c.new-own.result c.take.new.out c.end_event.new.out c.new-adopted.result c.try_adoption.new.out c.args.out.now c.add.new.self c.add_in_order.new.self
    c.new-own.ensures.packets c.new-own.ensures.records c.new-adopted.ensures.packets c.new-adopted.ensures.records (sym (c.is_dropped.ensures (g.D.Disk.moment c.args.disk.now).seen) ∙ c.if-is_dropped.false) c.in_default.ensures.step (c.in_default-try_adoption.ensures.step c.args.packet.body c.tries_at-tries.ensures) c.in_ok-end_event.ensures.step c.in_ok-add.ensures c.in_ok-add_in_order.ensures.order

pub returns-then-is_dropped-clause-disk : goal.returns-then-is_dropped-clause-disk
returns-then-is_dropped-clause-disk g c = untouched _ c.args.self.now.packs (g.D.Disk.moment c.args.disk.now) c.args.out.now c.args.out.now tt (dropped_none c.args.links.now c.args.packet c.args.self.now (view_of c.args.self.now (g.D.Disk.moment c.args.disk.now).seen) (sym (c.is_dropped.ensures (g.D.Disk.moment c.args.disk.now).seen) ∙ c.if-is_dropped.true)) c.requires.settled (g.met.D.Disk.only_now c.args.disk.now)

pub returns-in-Err-clause-disk : goal.returns-in-Err-clause-disk
returns-in-Err-clause-disk g c = receive_failed g.D.Disk.moment g.met.D.Disk.reads_an_image g.met.D.Disk.counts_now {T = Unit {0}} c.args.links.now c.args.packet c.args.self.now c.args.disk.now c.take.new.disk c.args.out.now c.cut_off.new.out c.cut_off.result (sym (c.is_dropped.ensures (g.D.Disk.moment c.args.disk.now).seen) ∙ c.if-is_dropped.false)
    (cut_told {T = Unit {0}} {S = Unit {0}} (taken c.args.self.now.frame.config c.args.self.now.frame.me c.args.links.now c.args.packet (view_of c.args.self.now (g.D.Disk.moment c.args.disk.now).seen)).written c.args.self.now.packs (g.D.Disk.moment c.args.disk.now) (g.D.Disk.moment c.take.new.disk) c.new-own.result c.take.new.out c.args.out.now c.cut_off.new.out c.in-Err.fault c.cut_off.result c.new-own.ensures.packets c.new-own.ensures.records c.cut_off.ensures.fault c.cut_off.ensures.told c.in-Err.ensures.disk)

pub returns-in-Err-try_adoption-clause-disk : goal.returns-in-Err-try_adoption-clause-disk
returns-in-Err-try_adoption-clause-disk g c = (received g.D.Disk.moment g.met.D.Disk.reads_an_image g.met.D.Disk.counts_now {S = Unit {0}} {T = Unit {0}} c.args.links.now c.args.packet c.args.self.now c.take.new.self c.args.disk.now c.take.new.disk c.try_adoption.new.disk c.new-own.result c.take.new.out c.args.out.now c.cut_off-in-Err-try_adoption.new.out tt (Err c.cut_off-in-Err-try_adoption.result) (sym (c.is_dropped.ensures (g.D.Disk.moment c.args.disk.now).seen) ∙ c.if-is_dropped.false) c.in_default.ensures.step c.in_default.ensures.disk
    (cut_told {T = Unit {0}} {S = Unit {0}} (tries_at c.take.new.self.frame.config c.take.new.self.frame.me c.args.packet.body (view_of c.take.new.self (g.D.Disk.moment c.take.new.disk).seen)).written c.take.new.self.packs (g.D.Disk.moment c.take.new.disk) (g.D.Disk.moment c.try_adoption.new.disk) c.new-adopted.result c.try_adoption.new.out c.args.out.now c.cut_off-in-Err-try_adoption.new.out c.in-Err-try_adoption.fault c.cut_off-in-Err-try_adoption.result c.new-adopted.ensures.packets c.new-adopted.ensures.records c.cut_off-in-Err-try_adoption.ensures.fault c.cut_off-in-Err-try_adoption.ensures.told
    (c.in-Err-try_adoption.ensures.disk c.args.packet.body c.tries_at-tries.ensures)))

pub returns-in_err-end_event-clause-disk : goal.returns-in_err-end_event-clause-disk
returns-in_err-end_event-clause-disk g c = handed {T = Unit {0}} {S = Unit {0}} (steps_at c.args.self.now c.args.links.now (Receives c.args.packet) (view_of c.args.self.now (g.D.Disk.moment c.args.disk.now).seen)).written c.args.self.now.packs (g.D.Disk.moment c.args.disk.now) (g.D.Disk.moment c.end_event.new.disk) c.args.out.now c.args.out.now c.from_residual.result c.in_err-end_event.field-0.0 c.from_residual.ensures.1
    (then_reads g.D.Disk.moment g.met.D.Disk.reads_an_image g.met.D.Disk.counts_now {S = Unit {0}} {T = Unit {0}} (steps_at c.args.self.now c.args.links.now (Receives c.args.packet) (view_of c.args.self.now (g.D.Disk.moment c.args.disk.now).seen)).written c.args.self.now.packs c.try_adoption.new.self.packs c.args.disk.now c.try_adoption.new.disk c.end_event.new.disk c.new-adopted.result c.try_adoption.new.out c.take.new.out c.end_event.new.out c.args.out.now c.args.out.now tt (Err c.in_err-end_event.field-0.0)
    (received g.D.Disk.moment g.met.D.Disk.reads_an_image g.met.D.Disk.counts_now {S = Unit {0}} {T = Unit {0}} c.args.links.now c.args.packet c.args.self.now c.take.new.self c.args.disk.now c.take.new.disk c.try_adoption.new.disk c.new-own.result c.take.new.out c.new-adopted.result c.try_adoption.new.out tt (Ok tt) (sym (c.is_dropped.ensures (g.D.Disk.moment c.args.disk.now).seen) ∙ c.if-is_dropped.false) c.in_default.ensures.step c.in_default.ensures.disk (c.in_default-try_adoption.ensures.disk c.args.packet.body c.tries_at-tries.ensures))
    c.in_err-end_event.ensures.disk)

pub returns-in_err-add-clause-disk : goal.returns-in_err-add-clause-disk
returns-in_err-add-clause-disk g c = failed_after {T = Unit {0}} {S = Unit {0}} (steps_at c.args.self.now c.args.links.now (Receives c.args.packet) (view_of c.args.self.now (g.D.Disk.moment c.args.disk.now).seen)).written c.args.self.now.packs (g.D.Disk.moment c.args.disk.now) (g.D.Disk.moment c.end_event.new.disk) c.args.out.now c.add.new.self c.args.out.now c.args.out.now tt c.from_residual-in_err-add.result NoMemory
    (then_reads g.D.Disk.moment g.met.D.Disk.reads_an_image g.met.D.Disk.counts_now {S = Unit {0}} {T = Unit {0}} (steps_at c.args.self.now c.args.links.now (Receives c.args.packet) (view_of c.args.self.now (g.D.Disk.moment c.args.disk.now).seen)).written c.args.self.now.packs c.try_adoption.new.self.packs c.args.disk.now c.try_adoption.new.disk c.end_event.new.disk c.new-adopted.result c.try_adoption.new.out c.take.new.out c.end_event.new.out c.args.out.now c.args.out.now tt (Ok tt)
    (received g.D.Disk.moment g.met.D.Disk.reads_an_image g.met.D.Disk.counts_now {S = Unit {0}} {T = Unit {0}} c.args.links.now c.args.packet c.args.self.now c.take.new.self c.args.disk.now c.take.new.disk c.try_adoption.new.disk c.new-own.result c.take.new.out c.new-adopted.result c.try_adoption.new.out tt (Ok tt) (sym (c.is_dropped.ensures (g.D.Disk.moment c.args.disk.now).seen) ∙ c.if-is_dropped.false) c.in_default.ensures.step c.in_default.ensures.disk (c.in_default-try_adoption.ensures.disk c.args.packet.body c.tries_at-tries.ensures))
    c.in_ok-end_event.ensures.disk)
    c.from_residual-in_err-add.ensures.1 tt

pub returns-in_err-add_in_order-clause-disk : goal.returns-in_err-add_in_order-clause-disk
returns-in_err-add_in_order-clause-disk g c = failed_after {T = Unit {0}} {S = Unit {0}} (steps_at c.args.self.now c.args.links.now (Receives c.args.packet) (view_of c.args.self.now (g.D.Disk.moment c.args.disk.now).seen)).written c.args.self.now.packs (g.D.Disk.moment c.args.disk.now) (g.D.Disk.moment c.end_event.new.disk) c.args.out.now c.add_in_order.new.self c.args.out.now c.args.out.now tt c.from_residual-in_err-add_in_order.result (fault_of_order c.in_err-add_in_order.field-0.0)
    (then_reads g.D.Disk.moment g.met.D.Disk.reads_an_image g.met.D.Disk.counts_now {S = Unit {0}} {T = Unit {0}} (steps_at c.args.self.now c.args.links.now (Receives c.args.packet) (view_of c.args.self.now (g.D.Disk.moment c.args.disk.now).seen)).written c.args.self.now.packs c.try_adoption.new.self.packs c.args.disk.now c.try_adoption.new.disk c.end_event.new.disk c.new-adopted.result c.try_adoption.new.out c.take.new.out c.end_event.new.out c.args.out.now c.args.out.now tt (Ok tt)
    (received g.D.Disk.moment g.met.D.Disk.reads_an_image g.met.D.Disk.counts_now {S = Unit {0}} {T = Unit {0}} c.args.links.now c.args.packet c.args.self.now c.take.new.self c.args.disk.now c.take.new.disk c.try_adoption.new.disk c.new-own.result c.take.new.out c.new-adopted.result c.try_adoption.new.out tt (Ok tt) (sym (c.is_dropped.ensures (g.D.Disk.moment c.args.disk.now).seen) ∙ c.if-is_dropped.false) c.in_default.ensures.step c.in_default.ensures.disk (c.in_default-try_adoption.ensures.disk c.args.packet.body c.tries_at-tries.ensures))
    c.in_ok-end_event.ensures.disk)
    c.from_residual-in_err-add_in_order.ensures.1 (order_off c.in_err-add_in_order.field-0.0)

pub returns-clause-disk : goal.returns-clause-disk
returns-clause-disk g c = then_reads g.D.Disk.moment g.met.D.Disk.reads_an_image g.met.D.Disk.counts_now {S = Unit {0}} {T = Unit {0}} (steps_at c.args.self.now c.args.links.now (Receives c.args.packet) (view_of c.args.self.now (g.D.Disk.moment c.args.disk.now).seen)).written c.args.self.now.packs c.try_adoption.new.self.packs c.args.disk.now c.try_adoption.new.disk c.end_event.new.disk c.new-adopted.result c.try_adoption.new.out c.take.new.out c.end_event.new.out c.args.out.now c.add_in_order.new.self tt (Ok tt)
    (received g.D.Disk.moment g.met.D.Disk.reads_an_image g.met.D.Disk.counts_now {S = Unit {0}} {T = Unit {0}} c.args.links.now c.args.packet c.args.self.now c.take.new.self c.args.disk.now c.take.new.disk c.try_adoption.new.disk c.new-own.result c.take.new.out c.new-adopted.result c.try_adoption.new.out tt (Ok tt) (sym (c.is_dropped.ensures (g.D.Disk.moment c.args.disk.now).seen) ∙ c.if-is_dropped.false) c.in_default.ensures.step c.in_default.ensures.disk (c.in_default-try_adoption.ensures.disk c.args.packet.body c.tries_at-tries.ensures))
    c.in_ok-end_event.ensures.disk

pub returns-in-Err-clause-spent : goal.returns-in-Err-clause-spent
returns-in-Err-clause-spent g c = handed_spent (IsSpent c.args.packet.body) c.in-Err.fault c.cut_off.result c.cut_off.ensures.fault c.in-Err.ensures.spent

pub returns-in-Err-try_adoption-clause-spent : goal.returns-in-Err-try_adoption-clause-spent
returns-in-Err-try_adoption-clause-spent g c = λ h. absurd (handed_numbered c.in-Err-try_adoption.fault c.cut_off-in-Err-try_adoption.result c.cut_off-in-Err-try_adoption.ensures.fault c.in-Err-try_adoption.ensures.numbered h)

pub returns-in_err-end_event-clause-spent : goal.returns-in_err-end_event-clause-spent
returns-in_err-end_event-clause-spent g c = if_err c.from_residual.result c.in_err-end_event.field-0.0 (λ f. f ≡ NoNumber → IsSpent c.args.packet.body) c.from_residual.ensures.1 (λ h. absurd (c.in_err-end_event.ensures.numbered h))

pub returns-in_err-add-clause-spent : goal.returns-in_err-add-clause-spent
returns-in_err-add-clause-spent g c = if_err c.from_residual-in_err-add.result NoMemory (λ f. f ≡ NoNumber → IsSpent c.args.packet.body) c.from_residual-in_err-add.ensures.1 (λ h. absurd (memory_numbered h))

pub returns-in_err-add_in_order-clause-spent : goal.returns-in_err-add_in_order-clause-spent
returns-in_err-add_in_order-clause-spent g c = if_err c.from_residual-in_err-add_in_order.result (fault_of_order c.in_err-add_in_order.field-0.0) (λ f. f ≡ NoNumber → IsSpent c.args.packet.body) c.from_residual-in_err-add_in_order.ensures.1 (λ h. absurd (order_numbered c.in_err-add_in_order.field-0.0 h))

pub returns-in-Err-clause-unfit : goal.returns-in-Err-clause-unfit
returns-in-Err-clause-unfit g c = handed_unfit {T = Unit {0}} {S = Unit {0}} (CanAct c.args.self.now.frame.config c.args.self.now.frame.me (groups_of c.args.self.now.packs) c.args.self.now.packs.site c.args.links.now (view_of c.args.self.now (g.D.Disk.moment c.args.disk.now).seen) (Receives c.args.packet)) c.in-Err.fault c.cut_off.result c.cut_off.ensures.fault (λ so can. c.in-Err.ensures.unfit so (can.taking (sym (c.is_dropped.ensures (g.D.Disk.moment c.args.disk.now).seen) ∙ c.if-is_dropped.false)))

pub returns-in-Err-try_adoption-clause-unfit : goal.returns-in-Err-try_adoption-clause-unfit
returns-in-Err-try_adoption-clause-unfit g c = handed_unfit {T = Unit {0}} {S = Unit {0}} (CanAct c.args.self.now.frame.config c.args.self.now.frame.me (groups_of c.args.self.now.packs) c.args.self.now.packs.site c.args.links.now (view_of c.args.self.now (g.D.Disk.moment c.args.disk.now).seen) (Receives c.args.packet)) c.in-Err-try_adoption.fault c.cut_off-in-Err-try_adoption.result c.cut_off-in-Err-try_adoption.ensures.fault
    (λ so can. c.in-Err-try_adoption.ensures.unfit so (λ tries. tried_fit (taken c.args.self.now.frame.config c.args.self.now.frame.me c.args.links.now c.args.packet) c.args.self.now c.take.new.self (g.D.Disk.moment c.args.disk.now) (g.D.Disk.moment c.take.new.disk) c.new-own.result c.take.new.out c.in_default.ensures.step (can.adopting (sym (c.is_dropped.ensures (g.D.Disk.moment c.args.disk.now).seen) ∙ c.if-is_dropped.false) (sym c.tries_at-tries.ensures ∙ tries))))

pub returns-in_err-end_event-clause-unfit : goal.returns-in_err-end_event-clause-unfit
returns-in_err-end_event-clause-unfit g c = unfit_at {S = Unit {0}} (CanAct c.args.self.now.frame.config c.args.self.now.frame.me (groups_of c.args.self.now.packs) c.args.self.now.packs.site c.args.links.now (view_of c.args.self.now (g.D.Disk.moment c.args.disk.now).seen) (Receives c.args.packet)) c.from_residual.result c.in_err-end_event.field-0.0 c.from_residual.ensures.1
    (λ so can. c.in_err-end_event.ensures.unfit so (came_tables c.args.links.now c.args.packet c.args.self.now c.take.new.self c.try_adoption.new.self (g.D.Disk.moment c.args.disk.now) (g.D.Disk.moment c.take.new.disk) (g.D.Disk.moment c.try_adoption.new.disk) c.new-own.result c.take.new.out c.new-adopted.result c.try_adoption.new.out c.in_default.ensures.step (c.in_default-try_adoption.ensures.step c.args.packet.body c.tries_at-tries.ensures) (can.mending (sym (c.is_dropped.ensures (g.D.Disk.moment c.args.disk.now).seen) ∙ c.if-is_dropped.false))))

pub returns-in_err-add-clause-unfit : goal.returns-in_err-add-clause-unfit
returns-in_err-add-clause-unfit g c so can = memory_fit c.from_residual-in_err-add.result c.from_residual-in_err-add.ensures.1 so

pub returns-in_err-add_in_order-clause-unfit : goal.returns-in_err-add_in_order-clause-unfit
returns-in_err-add_in_order-clause-unfit g c = fault_at (CanAct c.args.self.now.frame.config c.args.self.now.frame.me (groups_of c.args.self.now.packs) c.args.self.now.packs.site c.args.links.now (view_of c.args.self.now (g.D.Disk.moment c.args.disk.now).seen) (Receives c.args.packet)) c.from_residual-in_err-add_in_order.result (fault_of_order c.in_err-add_in_order.field-0.0) c.from_residual-in_err-add_in_order.ensures.1
    (order_unfit {S = Unit {0}} (CanAct c.args.self.now.frame.config c.args.self.now.frame.me (groups_of c.args.self.now.packs) c.args.self.now.packs.site c.args.links.now (view_of c.args.self.now (g.D.Disk.moment c.args.disk.now).seen) (Receives c.args.packet)) c.in_err-add_in_order.field-0.0 (λ so can. c.in_err-add_in_order.ensures.unfit so
    (came_fit c.args.links.now c.args.packet c.args.self.now c.take.new.self c.try_adoption.new.self c.end_event.new.self (g.D.Disk.moment c.args.disk.now) (g.D.Disk.moment c.take.new.disk) (g.D.Disk.moment c.try_adoption.new.disk) (g.D.Disk.moment c.end_event.new.disk) c.new-own.result c.take.new.out c.new-adopted.result c.try_adoption.new.out c.end_event.new.out c.new-own.ensures.packets c.new-own.ensures.records (sym (c.is_dropped.ensures (g.D.Disk.moment c.args.disk.now).seen) ∙ c.if-is_dropped.false) c.in_default.ensures.step (c.in_default-try_adoption.ensures.step c.args.packet.body c.tries_at-tries.ensures) c.in_ok-end_event.ensures.step can.sending)))
