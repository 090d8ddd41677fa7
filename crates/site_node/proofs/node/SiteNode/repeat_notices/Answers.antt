use Rattle.std.proofs.Common.{◌++◌, ◌∙◌, ap}
use Rattle.std.specs.List.{flat_map}
use Rattle.role_steps.specs.Reports.{sync_repeats}
use Rattle.site_node.proofs.Ticks.{adds_sorted}
use Rattle.site_node.proofs.Again.{order_at, order_memory, outbox_fit}
use Rattle.std.specs.List.{AllByRecursion}
use Rattle.packet_order.specs.Counts.{FitsIfCounted}
use Rattle.site_node.proofs.node.SiteNode.repeat_notices.Goals as goal

pub returns-clause-adds : goal.returns-clause-adds
returns-clause-adds c = adds_sorted (flat_map (sync_repeats c.args.self.now.frame) c.args.self.now.tables) c.new-notices.result c.repeat_notices.new.out c.args.out.now c.add_in_order.new.self c.new-notices.ensures.packets c.new-notices.ensures.records (c.in_ok-repeat_notices.ensures.packets ∙ ap (λ ts. c.new-notices.result.packets ++ flat_map (sync_repeats c.args.self.now.frame) ts) c.as_slice.ensures.rows) c.in_ok-repeat_notices.ensures.records c.in_ok-add_in_order.ensures.order

pub returns-in_err-repeat_notices-clause-unfit : goal.returns-in_err-repeat_notices-clause-unfit
returns-in_err-repeat_notices-clause-unfit c so fit = order_memory c.from_residual.result c.from_residual.ensures.1 so

pub returns-in_err-add_in_order-clause-unfit : goal.returns-in_err-add_in_order-clause-unfit
returns-in_err-add_in_order-clause-unfit c so fit = order_at {S = Unit {0}} (AllByRecursion FitsIfCounted (flat_map (sync_repeats c.args.self.now.frame) c.args.self.now.tables)) c.from_residual-in_err-add_in_order.result c.in_err-add_in_order.field-0.0 c.from_residual-in_err-add_in_order.ensures.1
    (λ is all. c.in_err-add_in_order.ensures.unfit is (outbox_fit (flat_map (sync_repeats c.args.self.now.frame) c.args.self.now.tables) c.new-notices.result c.repeat_notices.new.out c.new-notices.ensures.packets (c.in_ok-repeat_notices.ensures.packets ∙ ap (λ ts. c.new-notices.result.packets ++ flat_map (sync_repeats c.args.self.now.frame) ts) c.as_slice.ensures.rows) all)) so fit
