use Rattle.site_node.proofs.Ticks.{forming_adds, forming_packets}
use Rattle.site_node.proofs.Again.{order_at, order_memory}
use Rattle.std.specs.List.{AllByRecursion}
use Rattle.packet_order.specs.Counts.{FitsIfCounted}
use Rattle.std.proofs.Common.{sym, subst, List}
use Rattle.wire_messages.specs.declared.packet.Packet.{Packet}
use Rattle.site_node.specs.Repeats.{forming_repeats}
use Rattle.site_node.specs.Views.{view_of}
use Rattle.site_node.proofs.node.SiteNode.repeat_forming.Goals as goal

pub returns-clause-adds : goal.returns-clause-adds
returns-clause-adds c = λ image. forming_adds c.site-me.result c.args.self.now.frame.me c.args.epoch.now c.args.self.now image c.new-forming.result c.repeat_polls.new.out c.repeat_installs.new.forming c.args.out.now c.add_in_order.new.self c.site-me.ensures c.new-forming.ensures.packets c.new-forming.ensures.records c.in_ok-repeat_polls.ensures.packets c.in_ok-repeat_polls.ensures.records
    (c.in_ok-repeat_installs.ensures.packets image) c.in_ok-repeat_installs.ensures.records c.in_ok-add_in_order.ensures.order

pub returns-in_err-repeat_polls-clause-unfit : goal.returns-in_err-repeat_polls-clause-unfit
returns-in_err-repeat_polls-clause-unfit c so image fit = order_memory c.from_residual.result c.from_residual.ensures.1 so

pub returns-in_err-repeat_installs-clause-unfit : goal.returns-in_err-repeat_installs-clause-unfit
returns-in_err-repeat_installs-clause-unfit c so image fit = order_memory c.from_residual-in_err-repeat_installs.result c.from_residual-in_err-repeat_installs.ensures.1 so

pub returns-in_err-add_in_order-clause-unfit : goal.returns-in_err-add_in_order-clause-unfit
returns-in_err-add_in_order-clause-unfit c so image fit = order_at {S = Unit {0}} (AllByRecursion FitsIfCounted (forming_repeats c.args.self.now.frame.me (view_of c.args.self.now image) c.args.epoch.now)) c.from_residual-in_err-add_in_order.result c.in_err-add_in_order.field-0.0 c.from_residual-in_err-add_in_order.ensures.1
    (λ is all. c.in_err-add_in_order.ensures.unfit is (subst (λ (ps : List Packet). AllByRecursion FitsIfCounted ps) (sym (forming_packets c.site-me.result c.args.self.now.frame.me c.args.epoch.now c.args.self.now image c.new-forming.result c.repeat_polls.new.out c.repeat_installs.new.forming c.site-me.ensures c.new-forming.ensures.packets c.in_ok-repeat_polls.ensures.packets (c.in_ok-repeat_installs.ensures.packets image))) all)) so fit
