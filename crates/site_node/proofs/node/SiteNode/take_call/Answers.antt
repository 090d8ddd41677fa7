use Rattle.site_node.proofs.Outside.{call_works}
use Rattle.site_node.proofs.node.SiteNode.take_call.Goals as goal

pub returns : goal.returns
returns c = call_works c.args.process c.args.words c.enter_for_call-now.result c.args.self.now c.enter_for_call-now.new.self c.call.new.self c.args.out.now c.call.new.out c.enter_for_call-now.ensures.frame c.enter_for_call-now.ensures.epoch c.in_ok-call.ensures
