use Rattle.role_steps.specs.Epochs.{installs_all, joins}
use Rattle.site_node.proofs.Joins.{installs_as}
use Rattle.site_node.proofs.Moving.{works_then, works_from}
use Rattle.site_node.proofs.node.SiteNode.decide.Goals as goal

pub returns : goal.returns
returns c = works_then (joins c.args.self.now.frame.config c.args.self.now.frame.me c.args.epoch.id c.args.epoch.members) (installs_all c.args.self.now.frame.me c.args.epoch.id c.args.epoch.members) c.args.self.now c.join.new.self (record c.join.new.self { epochs = c.send_installs.new.self }) c.args.out.now c.join.new.out c.send_installs.new.out
    c.in_ok-join.ensures
    (works_from (λ k me. installs_all me c.args.epoch.id c.args.epoch.members) c.args.self.now c.join.new.self (record c.join.new.self { epochs = c.send_installs.new.self }) c.join.new.out c.send_installs.new.out c.in_ok-join.ensures.config c.in_ok-join.ensures.me
    (installs_as c.site-me.result c.args.epoch.id c.args.epoch.members c.join.new.self c.send_installs.new.self c.join.new.out c.send_installs.new.out c.site-me.ensures c.in_ok-send_installs.ensures.view c.in_ok-send_installs.ensures.packets c.in_ok-send_installs.ensures.records))
