use Rattle.role_steps.specs.Epochs.{starts_merge}
use Rattle.the_run.specs.Steps.{ends_event}
use Rattle.site_parts.specs.Faults.{fault_of_epoch, fault_of_order}
use Rattle.site_node.specs.Views.{view_of}
use Rattle.site_parts.specs.declared.fault.NodeFault.TheVariants.{NoNumber}
use Rattle.site_parts.proofs.Cuts.{ended_ill, ended_late, ended_well, epoch_off, failed_still, order_off}
use Rattle.site_node.proofs.Unwritten.{merge_step}
use Rattle.site_node.proofs.Endings.{event_alone}
use Rattle.site_node.proofs.Moving.{moves_from, moves_work}
use Rattle.std.proofs.Common.{◌≡◌}
use Rattle.site_parts.proofs.Numbers.{if_err, order_numbered, spent_at}
use Rattle.site_parts.proofs.Fits.{unfit_at}
use Rattle.site_node.proofs.Fitted.{epoch_fit, fault_at, order_unfit, own_fit, tables_then}
use Rattle.site_packs.specs.Packs.{groups_of}
use Rattle.site_node.specs.Fitting.{CanAct}
use Rattle.role_steps.specs.Views.{Merges}
use Rattle.site_parts.specs.Faults.{fault_of_order}
use Rattle.site_node.proofs.node.SiteNode.merge.Goals as goal

pub end_event-requires : goal.end_event-requires
end_event-requires g c = (moves_work (starts_merge c.args.self.now.frame.me c.args.links.now) c.args.self.now c.start_merge.new.self (g.D.Disk.moment c.args.disk.now) c.new-own.result c.start_merge.new.out c.requires c.in_ok-start_merge.ensures.works).stands

pub returns-clause-step : goal.returns-clause-step
returns-clause-step g c = event_alone (starts_merge c.args.self.now.frame.me c.args.links.now) (ends_event c.args.self.now.frame.config c.args.self.now.frame.me c.args.links.now) c.args.self.now c.start_merge.new.self c.end_event.new.self (g.D.Disk.moment c.args.disk.now) (g.D.Disk.moment c.args.disk.now) (g.D.Disk.moment c.end_event.new.disk) c.new-own.result c.start_merge.new.out c.end_event.new.out c.args.out.now c.add_in_order.new.self c.new-own.ensures.packets c.new-own.ensures.records
    (moves_work (starts_merge c.args.self.now.frame.me c.args.links.now) c.args.self.now c.start_merge.new.self (g.D.Disk.moment c.args.disk.now) c.new-own.result c.start_merge.new.out c.requires c.in_ok-start_merge.ensures.works)
    (moves_from (λ k me. ends_event k me c.args.links.now) c.args.self.now c.start_merge.new.self c.end_event.new.self (g.D.Disk.moment c.args.disk.now) (g.D.Disk.moment c.end_event.new.disk) c.start_merge.new.out c.end_event.new.out c.in_ok-start_merge.ensures.works.config c.in_ok-start_merge.ensures.works.me c.in_ok-end_event.ensures.step)
    c.in_ok-add_in_order.ensures.order

pub returns-clause-disk : goal.returns-clause-disk
returns-clause-disk g c = ended_well _ (merge_step c.args.self.now.frame.config c.args.self.now.frame.me c.args.links.now (view_of c.args.self.now (g.D.Disk.moment c.args.disk.now).seen)) c.args.self.now.packs c.start_merge.new.self.packs (g.D.Disk.moment c.args.disk.now) (g.D.Disk.moment c.end_event.new.disk) c.args.out.now c.add_in_order.new.self c.start_merge.new.out c.end_event.new.out {T = Unit {0}} {S = Unit {0}} tt tt c.in_ok-end_event.ensures.disk

pub returns-in_err-start_merge-clause-disk : goal.returns-in_err-start_merge-clause-disk
returns-in_err-start_merge-clause-disk g c = failed_still _ c.args.self.now.packs (g.D.Disk.moment c.args.disk.now) c.args.out.now c.args.out.now c.from_residual.result (fault_of_epoch c.in_err-start_merge.field-0.0) c.from_residual.ensures.1 (epoch_off c.in_err-start_merge.field-0.0) c.requires.settled (g.met.D.Disk.only_now c.args.disk.now)

pub returns-in_err-end_event-clause-disk : goal.returns-in_err-end_event-clause-disk
returns-in_err-end_event-clause-disk g c = ended_ill _ (merge_step c.args.self.now.frame.config c.args.self.now.frame.me c.args.links.now (view_of c.args.self.now (g.D.Disk.moment c.args.disk.now).seen)) c.args.self.now.packs c.start_merge.new.self.packs (g.D.Disk.moment c.args.disk.now) (g.D.Disk.moment c.end_event.new.disk) c.args.out.now c.args.out.now c.start_merge.new.out c.end_event.new.out {T = Unit {0}} {S = Unit {0}} c.from_residual-in_err-end_event.result c.in_err-end_event.field-0.0 c.from_residual-in_err-end_event.ensures.1 c.in_err-end_event.ensures.disk

pub returns-in_err-add_in_order-clause-disk : goal.returns-in_err-add_in_order-clause-disk
returns-in_err-add_in_order-clause-disk g c = ended_late _ (merge_step c.args.self.now.frame.config c.args.self.now.frame.me c.args.links.now (view_of c.args.self.now (g.D.Disk.moment c.args.disk.now).seen)) c.args.self.now.packs c.start_merge.new.self.packs (g.D.Disk.moment c.args.disk.now) (g.D.Disk.moment c.end_event.new.disk) c.args.out.now c.add_in_order.new.self c.start_merge.new.out c.end_event.new.out {T = Unit {0}} {S = Unit {0}} c.from_residual-in_err-add_in_order.result (fault_of_order c.in_err-add_in_order.field-0.0) tt c.from_residual-in_err-add_in_order.ensures.1 (order_off c.in_err-add_in_order.field-0.0) c.in_ok-end_event.ensures.disk

pub returns-in_err-start_merge-clause-spent : goal.returns-in_err-start_merge-clause-spent
returns-in_err-start_merge-clause-spent g c = if_err c.from_residual.result (fault_of_epoch c.in_err-start_merge.field-0.0) (λ f. f ≡ NoNumber → c.args.self.now.epochs.promised.number ≡ 4294967295) c.from_residual.ensures.1 (spent_at c.in_err-start_merge.field-0.0 (c.args.self.now.epochs.promised.number ≡ 4294967295) c.in_err-start_merge.ensures.spent)

pub returns-in_err-end_event-clause-spent : goal.returns-in_err-end_event-clause-spent
returns-in_err-end_event-clause-spent g c = if_err c.from_residual-in_err-end_event.result c.in_err-end_event.field-0.0 (λ f. f ≡ NoNumber → c.args.self.now.epochs.promised.number ≡ 4294967295) c.from_residual-in_err-end_event.ensures.1 (λ h. absurd (c.in_err-end_event.ensures.numbered h))

pub returns-in_err-add_in_order-clause-spent : goal.returns-in_err-add_in_order-clause-spent
returns-in_err-add_in_order-clause-spent g c = if_err c.from_residual-in_err-add_in_order.result (fault_of_order c.in_err-add_in_order.field-0.0) (λ f. f ≡ NoNumber → c.args.self.now.epochs.promised.number ≡ 4294967295) c.from_residual-in_err-add_in_order.ensures.1 (λ h. absurd (order_numbered c.in_err-add_in_order.field-0.0 h))

pub returns-in_err-start_merge-clause-unfit : goal.returns-in_err-start_merge-clause-unfit
returns-in_err-start_merge-clause-unfit g c = fault_at (CanAct c.args.self.now.frame.config c.args.self.now.frame.me (groups_of c.args.self.now.packs) c.args.self.now.packs.site c.args.links.now (view_of c.args.self.now (g.D.Disk.moment c.args.disk.now).seen) Merges) c.from_residual.result (fault_of_epoch c.in_err-start_merge.field-0.0) c.from_residual.ensures.1 (λ so can. epoch_fit c.in_err-start_merge.field-0.0 so)

pub returns-in_err-end_event-clause-unfit : goal.returns-in_err-end_event-clause-unfit
returns-in_err-end_event-clause-unfit g c = unfit_at {S = Unit {0}} (CanAct c.args.self.now.frame.config c.args.self.now.frame.me (groups_of c.args.self.now.packs) c.args.self.now.packs.site c.args.links.now (view_of c.args.self.now (g.D.Disk.moment c.args.disk.now).seen) Merges) c.from_residual-in_err-end_event.result c.in_err-end_event.field-0.0 c.from_residual-in_err-end_event.ensures.1
    (λ so can. c.in_err-end_event.ensures.unfit so (tables_then (starts_merge c.args.self.now.frame.me c.args.links.now) c.args.links.now c.args.self.now c.start_merge.new.self (g.D.Disk.moment c.args.disk.now) (g.D.Disk.moment c.args.disk.now) c.new-own.result c.start_merge.new.out (moves_work (starts_merge c.args.self.now.frame.me c.args.links.now) c.args.self.now c.start_merge.new.self (g.D.Disk.moment c.args.disk.now) c.new-own.result c.start_merge.new.out c.requires c.in_ok-start_merge.ensures.works) can.mending))

pub returns-in_err-add_in_order-clause-unfit : goal.returns-in_err-add_in_order-clause-unfit
returns-in_err-add_in_order-clause-unfit g c = fault_at (CanAct c.args.self.now.frame.config c.args.self.now.frame.me (groups_of c.args.self.now.packs) c.args.self.now.packs.site c.args.links.now (view_of c.args.self.now (g.D.Disk.moment c.args.disk.now).seen) Merges) c.from_residual-in_err-add_in_order.result (fault_of_order c.in_err-add_in_order.field-0.0) c.from_residual-in_err-add_in_order.ensures.1
    (order_unfit {S = Unit {0}} (CanAct c.args.self.now.frame.config c.args.self.now.frame.me (groups_of c.args.self.now.packs) c.args.self.now.packs.site c.args.links.now (view_of c.args.self.now (g.D.Disk.moment c.args.disk.now).seen) Merges) c.in_err-add_in_order.field-0.0 (λ so can. c.in_err-add_in_order.ensures.unfit so
    (own_fit (starts_merge c.args.self.now.frame.me c.args.links.now) (ends_event c.args.self.now.frame.config c.args.self.now.frame.me c.args.links.now) c.args.self.now c.start_merge.new.self c.end_event.new.self (g.D.Disk.moment c.args.disk.now) (g.D.Disk.moment c.args.disk.now) (g.D.Disk.moment c.end_event.new.disk) c.new-own.result c.start_merge.new.out c.end_event.new.out c.new-own.ensures.packets c.new-own.ensures.records
    (moves_work (starts_merge c.args.self.now.frame.me c.args.links.now) c.args.self.now c.start_merge.new.self (g.D.Disk.moment c.args.disk.now) c.new-own.result c.start_merge.new.out c.requires c.in_ok-start_merge.ensures.works)
    (moves_from (λ k me. ends_event k me c.args.links.now) c.args.self.now c.start_merge.new.self c.end_event.new.self (g.D.Disk.moment c.args.disk.now) (g.D.Disk.moment c.end_event.new.disk) c.start_merge.new.out c.end_event.new.out c.in_ok-start_merge.ensures.works.config c.in_ok-start_merge.ensures.works.me c.in_ok-end_event.ensures.step)
    can.sending)))
