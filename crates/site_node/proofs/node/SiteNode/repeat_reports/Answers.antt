use Rattle.role_steps.specs.Epochs.{all_reports}
use Rattle.site_node.specs.Views.{view_of}
use Rattle.site_node.proofs.Ticks.{adds_sorted}
use Rattle.site_node.proofs.Again.{order_at, order_memory, outbox_fit}
use Rattle.std.specs.List.{AllByRecursion}
use Rattle.packet_order.specs.Counts.{FitsIfCounted}
use Rattle.site_node.proofs.node.SiteNode.repeat_reports.Goals as goal

pub returns-clause-adds : goal.returns-clause-adds
returns-clause-adds c = λ image h. adds_sorted (all_reports c.args.self.now.frame (view_of c.args.self.now image)) c.new-reports.result c.report_all.new.out c.args.out.now c.add_in_order.new.self c.new-reports.ensures.packets c.new-reports.ensures.records (c.in_ok-report_all.ensures.packets image h) c.in_ok-report_all.ensures.records c.in_ok-add_in_order.ensures.order

pub returns-in_err-report_all-clause-unfit : goal.returns-in_err-report_all-clause-unfit
returns-in_err-report_all-clause-unfit c so image shown fit = order_memory c.from_residual.result c.from_residual.ensures.1 so

pub returns-in_err-add_in_order-clause-unfit : goal.returns-in_err-add_in_order-clause-unfit
returns-in_err-add_in_order-clause-unfit c so image shown fit = order_at {S = Unit {0}} (AllByRecursion FitsIfCounted (all_reports c.args.self.now.frame (view_of c.args.self.now image))) c.from_residual-in_err-add_in_order.result c.in_err-add_in_order.field-0.0 c.from_residual-in_err-add_in_order.ensures.1
    (λ is all. c.in_err-add_in_order.ensures.unfit is (outbox_fit (all_reports c.args.self.now.frame (view_of c.args.self.now image)) c.new-reports.result c.report_all.new.out c.new-reports.ensures.packets (c.in_ok-report_all.ensures.packets image shown) all)) so fit
