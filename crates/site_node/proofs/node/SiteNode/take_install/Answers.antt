use Rattle.std.proofs.Common.{sym, subst, ◌∙◌}
use Rattle.role_steps.specs.Epochs.{joins}
use Rattle.role_steps.specs.declared.rounds.InEpoch.{InEpoch}
use Rattle.merge_protocol.specs.declared.joining.InstallAnswer.TheVariants as install
use Rattle.site_node.specs.Views.{Works}
use Rattle.site_node.proofs.Joins.{answered_at, install_again, install_joins, install_nothing, says_joined_as}
use Rattle.site_node.proofs.node.SiteNode.take_install.Goals as goal

pub returns-in_ok-send-in-Joins : goal.returns-in_ok-send-in-Joins
returns-in_ok-send-in-Joins c = install_joins c.args.self.now.frame.config c.args.self.now.frame.me c.args.header.now.from c.args.header.now.from_boot c.args.header.now.id c.args.members.now c.args.self.now c.join.new.self c.args.out.now c.join.new.out c.send.new.self (λ v. c.joining_by_parts.ensures.install c.args.self.now.frame.config c.args.self.now.frame.me c.args.header.now.from c.args.header.now.from_boot c.args.header.now.id c.args.members.now v) (answered_at c.site-me.result c.args.header.now.id c.args.members.now c.args.self.now install.Joins c.site-me.ensures (sym c.in-Joins.is ∙ c.on_install.ensures)) (subst (λ (x : InEpoch). Works (joins c.args.self.now.frame.config c.args.self.now.frame.me x.id x.members) c.args.self.now c.join.new.self c.args.out.now c.join.new.out) c.installed.ensures c.in_ok-join-in-Joins.ensures)
    (says_joined_as c.site-me.result c.args.self.now.frame.me c.args.header.now.from c.args.header.now.from_boot c.args.header.now.id c.join.new.self c.joined_packet.result c.join.new.out c.send.new.self c.site-me.ensures c.joined_packet.ensures c.in_ok-send-in-Joins.ensures.ok)

pub returns-in_ok-send-in-Again : goal.returns-in_ok-send-in-Again
returns-in_ok-send-in-Again c = install_again c.args.self.now.frame.config c.args.self.now.frame.me c.args.header.now.from c.args.header.now.from_boot c.args.header.now.id c.args.members.now c.args.self.now c.args.out.now c.send-in-Again.new.self (λ v. c.joining_by_parts.ensures.install c.args.self.now.frame.config c.args.self.now.frame.me c.args.header.now.from c.args.header.now.from_boot c.args.header.now.id c.args.members.now v) (answered_at c.site-me.result c.args.header.now.id c.args.members.now c.args.self.now install.Again c.site-me.ensures (sym c.in-Again.is ∙ c.on_install.ensures))
    (says_joined_as c.site-me.result c.args.self.now.frame.me c.args.header.now.from c.args.header.now.from_boot c.args.header.now.id c.args.self.now c.joined_packet-in-Again.result c.args.out.now c.send-in-Again.new.self c.site-me.ensures c.joined_packet-in-Again.ensures c.in_ok-send-in-Again.ensures.ok)

pub returns-in-Nothing : goal.returns-in-Nothing
returns-in-Nothing c = install_nothing c.args.self.now.frame.config c.args.self.now.frame.me c.args.header.now.from c.args.header.now.from_boot c.args.header.now.id c.args.members.now c.args.self.now c.args.out.now (λ v. c.joining_by_parts.ensures.install c.args.self.now.frame.config c.args.self.now.frame.me c.args.header.now.from c.args.header.now.from_boot c.args.header.now.id c.args.members.now v) (answered_at c.site-me.result c.args.header.now.id c.args.members.now c.args.self.now install.Nothing c.site-me.ensures (sym c.in-Nothing.is ∙ c.on_install.ensures))
