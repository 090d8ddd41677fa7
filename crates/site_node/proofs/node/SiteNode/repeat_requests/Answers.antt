use Rattle.role_steps.specs.Requests.{users_repeats}
use Rattle.site_node.proofs.Ticks.{adds_plain}
use Rattle.site_node.proofs.Again.{order_memory}
use Rattle.site_node.proofs.node.SiteNode.repeat_requests.Goals as goal

pub returns-clause-adds : goal.returns-clause-adds
returns-clause-adds c = adds_plain (users_repeats c.args.self.now.frame c.args.self.now.users) c.new-requests.result c.repeats.new.out c.args.out.now c.add.new.self c.new-requests.ensures.packets c.new-requests.ensures.records c.in_ok-repeats.ensures.packets c.in_ok-repeats.ensures.records c.in_ok-add.ensures

pub returns-in_err-repeats-clause-fit : goal.returns-in_err-repeats-clause-fit
returns-in_err-repeats-clause-fit c so = order_memory c.from_residual.result c.from_residual.ensures.1 so

pub returns-in_err-add-clause-fit : goal.returns-in_err-add-clause-fit
returns-in_err-add-clause-fit c so = order_memory c.from_residual-in_err-add.result c.from_residual-in_err-add.ensures.1 so
