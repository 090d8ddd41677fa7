use Rattle.role_steps.specs.Pulling.{pull_repeats}
use Rattle.site_node.proofs.Ticks.{adds_sorted}
use Rattle.site_node.proofs.Again.{order_at, order_memory, outbox_fit}
use Rattle.std.specs.List.{AllByRecursion}
use Rattle.packet_order.specs.Counts.{FitsIfCounted}
use Rattle.site_node.proofs.node.SiteNode.repeat_pulls.Goals as goal

pub returns-clause-adds : goal.returns-clause-adds
returns-clause-adds c = adds_sorted (pull_repeats c.args.self.now.frame c.args.self.now.pulls) c.new-pulls.result c.repeats.new.out c.args.out.now c.add_in_order.new.self c.new-pulls.ensures.packets c.new-pulls.ensures.records c.in_ok-repeats.ensures.packets c.in_ok-repeats.ensures.records c.in_ok-add_in_order.ensures.order

pub returns-in_err-repeats-clause-unfit : goal.returns-in_err-repeats-clause-unfit
returns-in_err-repeats-clause-unfit c so fit = order_memory c.from_residual.result c.from_residual.ensures.1 so

pub returns-in_err-add_in_order-clause-unfit : goal.returns-in_err-add_in_order-clause-unfit
returns-in_err-add_in_order-clause-unfit c so fit = order_at {S = Unit {0}} (AllByRecursion FitsIfCounted (pull_repeats c.args.self.now.frame c.args.self.now.pulls)) c.from_residual-in_err-add_in_order.result c.in_err-add_in_order.field-0.0 c.from_residual-in_err-add_in_order.ensures.1
    (λ is all. c.in_err-add_in_order.ensures.unfit is (outbox_fit (pull_repeats c.args.self.now.frame c.args.self.now.pulls) c.new-pulls.result c.repeats.new.out c.new-pulls.ensures.packets c.in_ok-repeats.ensures.packets all)) so fit
